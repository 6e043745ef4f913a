-- Fixed byte strings: keys and words.
use Rattle.std.specs.Prelude.{ℕ, List, [], ◌∷◌, Bool, true, false, ◌&&◌, eqb}
use Prim.Native.Char.{code}
use Prim.Native.String.{String, [] as none, ◌∷◌ as ◌then◌}

-- a text of ASCII characters as bytes
abbrev pub bytes : String → List ℕ
bytes none = []
bytes (c then s) = code c ∷ bytes s

-- the list begins with the key
unfoldable pub begins_with : List ℕ → List ℕ → Bool
begins_with [] s = true
begins_with (k ∷ key) [] = false
begins_with (k ∷ key) (b ∷ s) = eqb b k && begins_with key s
