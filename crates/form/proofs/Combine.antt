-- The ways to put forms together keep what makes a form a format: each part is read back from its own place, and the places follow one another.
use Rattle.reply.specs.Respond.{Passed}
use Prim.Native.Nat.{ℕ, zero, suc, ◌+◌, ◌*◌, ◌≤◌}
use native.Mathlib.Nat.{add-zero}
use native.Mathlib.Omega.{arith}
use mathlib.Core.Path.{◌≡◌, refl, sym, ap, subst, ◌∙◌}
use mathlib.Core.Bool.{Bool, true, false, cond}
use mathlib.Core.List.{List, [], ◌∷◌, ◌++◌, map}
use lib.ListN.{length, take, drop, length-map}
use Rattle.laws.specs.Slots.{first_of, pad_to, length_first, first_pad}
use Rattle.laws.specs.Writing.{first_there, second_there, both_there, both_long}
use Rattle.reply.specs.declared.Refusal.TheVariants.{Malformed}
use Rattle.text.specs.Key.{begins_with}
use Rattle.text.proofs.KeyLaws.{begins_text, begins_split, begins_take}
use Rattle.form.specs.Form.{found, refused, Form, keyed, chain, texts, lines_of, checks, reads, exactly, held}
use Rattle.form.specs.Inverse.{WasRead, Inverse, Settled, Reaches}
use Rattle.form.proofs.Found.{not_both, found_value, found_place, then_found, then_same, also_first, also_second}

-- the same reading, told by the value and the place that it found
pub was_same : {A : Type 0} (f : Form A) {a b : A} {s : List ℕ} {at next end line : ℕ} → found a next ≡ found b end → WasRead f a s at next line
    → WasRead f b s at end line
was_same f e w = rw (← found_value e, ← found_place e) w

pub reaches_more : {A : Type 0} {f : Form A} {r q : ℕ} → r ≤ q → Reaches f r → Reaches f q
reaches_more h w =
    record {
      near = λ a s at next line e. omega (arith, w.near a s at next line e);
      prefix = λ s k at line l. w.prefix s k at line (omega arith);
    }

module _ (key : List ℕ) {A : Type 0} (f : Form A) where
  keyed_back : Inverse f → (a : A) (s rest : List ℕ) (at line : ℕ) → f.check a line ≡ Passed → drop at s ≡ (keyed key f).text a ++ rest
      → (keyed key f).read s at line ≡ found (f.clean a) (at + length ((keyed key f).text a))
  keyed_back i a s rest at line p e =
      let t : begins_with key (drop at s) ≡ true = ap (begins_with key) (first_there s key (f.text a) rest at e) ∙ begins_text key (f.text a ++ rest) in
      rw t (i.read_written a s rest (at + length key) line p (second_there s key (f.text a) rest at e)
      ∙ ap (found (f.clean a)) (both_long key (f.text a) at))

  keyed_was : Inverse f → (a : A) (s : List ℕ) (at next line : ℕ) → (keyed key f).read s at line ≡ found a next → WasRead (keyed key f) a s at next line
  keyed_was i a s at next line = go (begins_with key (drop at s)) refl
    where
      go : (t : Bool) → begins_with key (drop at s) ≡ t → cond t (f.read s (at + length key) line) (refused (Malformed line)) ≡ found a next
          → WasRead (keyed key f) a s at next line
      go true t e =
          let w = i.written_read a s (at + length key) next line e in
          record {
            bytes = both_there s key (f.text a) at (at + length key) next (begins_split key s at t).0 w.bytes;
            end = w.end ∙ both_long key (f.text a) at;
            passed = w.passed;
            cleaned = w.cleaned;
          }
      go false t e = absurd (not_both e)

  pub keyed_inverse : Inverse f → Inverse (keyed key f)
  keyed_inverse i = record { read_written = keyed_back i; written_read = keyed_was i }

  pub keyed_settled : Settled f → Settled (keyed key f)
  keyed_settled w = record { same_text = λ a. ap (λ (t : List ℕ). key ++ t) (w.same_text a); same_lines = w.same_lines; same_check = w.same_check }

  keyed_near : {r : ℕ} → Reaches f r → (a : A) (s : List ℕ) (at next line : ℕ) → (keyed key f).read s at line ≡ found a next → next ≤ at + (length key + r)
  keyed_near {r} w a s at next line = go (begins_with key (drop at s))
    where
      go : (t : Bool) → cond t (f.read s (at + length key) line) (refused (Malformed line)) ≡ found a next → next ≤ at + (length key + r)
      go true e = omega (arith, w.near a s (at + length key) next line e)
      go false e = absurd (not_both e)

  pub keyed_reaches : {r : ℕ} → Reaches f r → Reaches (keyed key f) (length key + r)
  keyed_reaches w =
      record {
        near = keyed_near w;
        prefix = λ s k at line h. rw (begins_take key s k at (omega arith), w.prefix s k (at + length key) line (omega arith)) refl;
      }

module _ {A B : Type 0} (f : Form A) (g : A → Form B) where
  -- two parts that were read one behind the other
  chain_both : (a : A) (b : B) (s : List ℕ) (at next end line : ℕ) → WasRead f a s at next line → WasRead (g a) b s next end (line + f.lines a)
      → WasRead (chain f g) (a, b) s at end line
  chain_both a b s at next end line w w' =
      record {
        bytes = both_there s (f.text a) ((g a).text b) at next end w.bytes w'.bytes;
        end = omega (arith, w.end, w'.end, both_long (f.text a) ((g a).text b) at);
        passed = rw w.passed w'.passed;
        cleaned = λ k. (w.cleaned k, w'.cleaned k);
      }

  pub chain_settled : ((a : A) → g (f.clean a) ≡ g a) → Settled f → ((a : A) → Settled (g a)) → Settled (chain f g)
  chain_settled same w z =
      record {
        same_text = λ v. rw (w.same_text v.0, same v.0, (z v.0).same_text v.1) refl;
        same_lines = λ v. rw (w.same_lines v.0, same v.0, (z v.0).same_lines v.1) refl;
        same_check = λ v line. rw (w.same_check v.0 line, same v.0, w.same_lines v.0, (z v.0).same_check v.1 (line + f.lines v.0)) refl;
      }

  module _ (same : (a : A) → g (f.clean a) ≡ g a) (i : Inverse f) (settled : Settled f) (j : (a : A) (line : ℕ) → f.check a line ≡ Passed
      → Inverse (g a)) where
    chain_back : (v : A × B) (s rest : List ℕ) (at line : ℕ) → (chain f g).check v line ≡ Passed → drop at s ≡ (chain f g).text v ++ rest
        → (chain f g).read s at line ≡ found ((chain f g).clean v) (at + length ((chain f g).text v))
    chain_back v s rest at line p e =
        let a = v.0 in
        let b = v.1 in
        let p₁ = also_first (f.check a line) ((g a).check b (line + f.lines a)) p in
        let p₂ = also_second (f.check a line) ((g a).check b (line + f.lines a)) p in
        let e₁ = i.read_written a s ((g a).text b ++ rest) at line p₁ (first_there s (f.text a) ((g a).text b) rest at e) in
        let e₂ = (j a line p₁).read_written b s rest (at + length (f.text a)) (line + f.lines a) p₂ (second_there s (f.text a) ((g a).text b) rest at e) in
        rw (e₁, same a, settled.same_lines a, e₂) (ap (found ((chain f g).clean v)) (both_long (f.text a) ((g a).text b) at))

    chain_was : (v : A × B) (s : List ℕ) (at next line : ℕ) → (chain f g).read s at line ≡ found v next → WasRead (chain f g) v s at next line
    chain_was v s at next line e =
        let u = then_found (f.read s at line) _ e in
        let x = then_found ((g u.value).read s u.place (line + f.lines u.value)) _ u.then in
        let w = i.written_read u.value s at u.place line u.first in
        let w' = (j u.value line w.passed).written_read x.value s u.place x.place (line + f.lines u.value) x.first in
        was_same (chain f g) x.then (chain_both u.value x.value s at u.place x.place line w w')

    pub chain_inverse : Inverse (chain f g)
    chain_inverse = record { read_written = chain_back; written_read = chain_was }

  module _ {r q : ℕ} (w : Reaches f r) (z : (a : A) (s : List ℕ) (at next line : ℕ) → f.read s at line ≡ found a next → Reaches (g a) q) where
    chain_near : (v : A × B) (s : List ℕ) (at next line : ℕ) → (chain f g).read s at line ≡ found v next → next ≤ at + (r + q)
    chain_near v s at next line e =
        let u = then_found (f.read s at line) _ e in
        let x = then_found ((g u.value).read s u.place (line + f.lines u.value)) _ u.then in
        let h = w.near u.value s at u.place line u.first in
        let h' = (z u.value s at u.place line u.first).near x.value s u.place x.place (line + f.lines u.value) x.first in
        omega (arith, h, h', found_place x.then)

    chain_prefix : (s : List ℕ) (k at line : ℕ) → at + (r + q) ≤ k → (chain f g).read (take k s) at line ≡ (chain f g).read s at line
    chain_prefix s k at line h =
        rw (w.prefix s k at line (omega arith))
        (then_same (f.read s at line) _ _ (λ a next e.
        rw ((z a s at next line e).prefix s k next (line + f.lines a) (omega (arith, w.near a s at next line e))) refl))

    pub chain_reaches : Reaches (chain f g) (r + q)
    chain_reaches = record { near = chain_near; prefix = chain_prefix }

module _ {A B : Type 0} (to : A → B) (from : B → A) (f : Form A) where
  held_was : (a : A) (s : List ℕ) (at next line : ℕ) → from (to a) ≡ a → WasRead f a s at next line → WasRead (held to from f) (to a) s at next line
  held_was a s at next line e w =
      record {
        bytes = w.bytes ∙ ap (λ (x : A). f.text x ++ drop next s) (sym e);
        end = w.end ∙ ap (λ (x : A). at + length (f.text x)) (sym e);
        passed = ap (λ (x : A). f.check x line) e ∙ w.passed;
        cleaned = ap (λ (x : A). to (f.clean x)) e ∙ ap to w.cleaned;
      }

  -- what was read comes back from the other type
  pub held_back : ((a : A) → from (to (f.clean a)) ≡ f.clean a) → {a : A} → f.clean a ≡ a → from (to a) ≡ a
  held_back back {a} e = subst (λ (x : A). from (to x) ≡ x) e (back a)

  pub held_inverse : ((a : A) → from (to (f.clean a)) ≡ f.clean a) → Inverse f → Inverse (held to from f)
  held_inverse back i =
      record {
        read_written = λ b s rest at line p e. rw (i.read_written (from b) s rest at line p e) refl;
        written_read = λ b s at next line e.
            let u = then_found (f.read s at line) _ e in
            let w = i.written_read u.value s at u.place line u.first in
            was_same (held to from f) u.then (held_was u.value s at u.place line (held_back back w.cleaned) w);
      }

  pub held_settled : ((a : A) → from (to (f.clean a)) ≡ f.clean a) → Settled f → Settled (held to from f)
  held_settled back w =
      record {
        same_text = λ b. ap f.text (back (from b)) ∙ w.same_text (from b);
        same_lines = λ b. ap f.lines (back (from b)) ∙ w.same_lines (from b);
        same_check = λ b line. ap (λ (a : A). f.check a line) (back (from b)) ∙ w.same_check (from b) line;
      }

  pub held_reaches : {r : ℕ} → Reaches f r → Reaches (held to from f) r
  held_reaches w =
      record {
        near = λ b s at next line e.
            let u = then_found (f.read s at line) _ e in
            omega (arith, w.near u.value s at u.place line u.first, found_place u.then);
        prefix = λ s k at line h. rw (w.prefix s k at line h) refl;
      }

-- parts of one form in a row: what was read is what stands there, and as many as were asked for
record WereRead {A : Type 0} (f : Form A) (n : ℕ) (l : List A) (s : List ℕ) (at next line : ℕ) : Type 0 where
  count : length l ≡ n
  bytes : drop at s ≡ texts f l ++ drop next s
  end : next ≡ at + length (texts f l)
  passed : checks f l line ≡ Passed
  cleaned : map f.clean l ≡ l

module _ {A : Type 0} (f : Form A) where
  were_none : (s : List ℕ) (at line : ℕ) → WereRead f 0 [] s at at line
  unfolding texts checks
  were_none s at line = record { count = refl; bytes = refl; end = sym (add-zero at); passed = refl; cleaned = refl }

  were_more : (n : ℕ) (a : A) (l : List A) (s : List ℕ) (at next end line : ℕ) → WasRead f a s at next line → WereRead f n l s next end (line + f.lines a)
      → WereRead f (suc n) (a ∷ l) s at end line
  unfolding texts checks
  were_more n a l s at next end line w w' =
      record {
        count = ap suc w'.count;
        bytes = both_there s (f.text a) (texts f l) at next end w.bytes w'.bytes;
        end = omega (arith, w.end, w'.end, both_long (f.text a) (texts f l) at);
        passed = rw w.passed w'.passed;
        cleaned = λ k. w.cleaned k ∷ w'.cleaned k;
      }

  were_same : (n : ℕ) {l m : List A} {s : List ℕ} {at next end line : ℕ} → found l next ≡ found m end → WereRead f n l s at next line
      → WereRead f n m s at end line
  were_same n e w = rw (← found_value e, ← found_place e) w

  reads_was : Inverse f → (n : ℕ) (l : List A) (s : List ℕ) (at next line : ℕ) → reads f n s at line ≡ found l next → WereRead f n l s at next line
  unfolding reads
  reads_was i zero l s at next line e = were_same 0 e (were_none s at line)
  reads_was i (suc n) l s at next line e =
      let u = then_found (f.read s at line) _ e in
      let x = then_found (reads f n s u.place (line + f.lines u.value)) _ u.then in
      let w = i.written_read u.value s at u.place line u.first in
      let w' = reads_was i n x.value s u.place x.place (line + f.lines u.value) x.first in
      were_same (suc n) x.then (were_more n u.value x.value s at u.place x.place line w w')

  reads_back : Inverse f → Settled f → (l : List A) (s rest : List ℕ) (at line : ℕ) → checks f l line ≡ Passed → drop at s ≡ texts f l ++ rest
      → reads f (length l) s at line ≡ found (map f.clean l) (at + length (texts f l))
  unfolding texts checks reads
  reads_back i w [] s rest at line p e = ap (found []) (sym (add-zero at))
  reads_back i w (a ∷ l) s rest at line p e =
      let p₁ = also_first (f.check a line) (checks f l (line + f.lines a)) p in
      let p₂ = also_second (f.check a line) (checks f l (line + f.lines a)) p in
      let e₁ = i.read_written a s (texts f l ++ rest) at line p₁ (first_there s (f.text a) (texts f l) rest at e) in
      let e₂ = reads_back i w l s rest (at + length (f.text a)) (line + f.lines a) p₂ (second_there s (f.text a) (texts f l) rest at e) in
      rw (e₁, w.same_lines a, e₂) (ap (found (map f.clean (a ∷ l))) (both_long (f.text a) (texts f l) at))

  texts_clean : Settled f → (l : List A) → texts f (map f.clean l) ≡ texts f l
  unfolding texts
  texts_clean w [] = refl
  texts_clean w (a ∷ l) = rw (w.same_text a, texts_clean w l) refl

  lines_clean : Settled f → (l : List A) → lines_of f (map f.clean l) ≡ lines_of f l
  unfolding lines_of
  lines_clean w [] = refl
  lines_clean w (a ∷ l) = rw (w.same_lines a, lines_clean w l) refl

  checks_clean : Settled f → (l : List A) (line : ℕ) → checks f (map f.clean l) line ≡ checks f l line
  unfolding checks
  checks_clean w [] line = refl
  checks_clean w (a ∷ l) line = rw (w.same_check a line, w.same_lines a, checks_clean w l (line + f.lines a)) refl

  reads_near : {r : ℕ} → Reaches f r → (n : ℕ) (l : List A) (s : List ℕ) (at next line : ℕ) → reads f n s at line ≡ found l next → next ≤ at + n * r
  unfolding reads
  reads_near w zero l s at next line e = omega (arith, found_place e)
  reads_near w (suc n) l s at next line e =
      let u = then_found (f.read s at line) _ e in
      let x = then_found (reads f n s u.place (line + f.lines u.value)) _ u.then in
      let h = w.near u.value s at u.place line u.first in
      let h' = reads_near w n x.value s u.place x.place (line + f.lines u.value) x.first in
      omega (arith, h, h', found_place x.then)

  reads_prefix : {r : ℕ} → Reaches f r → (n : ℕ) (s : List ℕ) (k at line : ℕ) → at + n * r ≤ k → reads f n (take k s) at line ≡ reads f n s at line
  unfolding reads
  reads_prefix w zero s k at line h = refl
  reads_prefix {r} w (suc n) s k at line h =
      rw (w.prefix s k at line (omega arith))
      (then_same (f.read s at line) _ _ (λ a next e.
      rw (reads_prefix w n s k next (line + f.lines a) (omega (arith, w.near a s at next line e))) refl))

module _ (n size : ℕ) {A : Type 0} (d : A) (f : Form A) where
  exactly_was : (l : List A) (s : List ℕ) (at next line : ℕ) → WereRead f n l s at next line → WasRead (exactly n size d f) (pad_to size d l) s at next line
  exactly_was l s at next line w =
      let e = first_pad n size d l w.count in
      record {
        bytes = w.bytes ∙ ap (λ (m : List A). texts f m ++ drop next s) (sym e);
        end = w.end ∙ ap (λ (m : List A). at + length (texts f m)) (sym e);
        passed = ap (λ (m : List A). checks f m line) e ∙ w.passed;
        cleaned = ap (λ (m : List A). pad_to size d (map f.clean m)) e ∙ ap (pad_to size d) w.cleaned;
      }

  pub exactly_inverse : Inverse f → Settled f → Inverse (exactly n size d f)
  exactly_inverse i w =
      record {
        read_written = λ l s rest at line p e.
            let m = first_of n d l in
            rw (ap (λ (k : ℕ). reads f k s at line) (sym (length_first n d l)) ∙ reads_back f i w m s rest at line p e) refl;
        written_read = λ l s at next line e.
            let u = then_found (reads f n s at line) _ e in
            was_same (exactly n size d f) u.then (exactly_was u.value s at u.place line (reads_was f i n u.value s at u.place line u.first));
      }

  -- the parts that count, each of them clean
  first_clean : (l : List A) → first_of n d (pad_to size d (map f.clean (first_of n d l))) ≡ map f.clean (first_of n d l)
  first_clean l = first_pad n size d (map f.clean (first_of n d l)) (length-map (first_of n d l) f.clean ∙ length_first n d l)

  pub exactly_settled : Settled f → Settled (exactly n size d f)
  exactly_settled w =
      record {
        same_text = λ l. ap (texts f) (first_clean l) ∙ texts_clean f w (first_of n d l);
        same_lines = λ l. ap (lines_of f) (first_clean l) ∙ lines_clean f w (first_of n d l);
        same_check = λ l line. ap (λ (m : List A). checks f m line) (first_clean l) ∙ checks_clean f w (first_of n d l) line;
      }

  pub exactly_reaches : {r : ℕ} → Reaches f r → Reaches (exactly n size d f) (n * r)
  exactly_reaches w =
      record {
        near = λ l s at next line e.
            let u = then_found (reads f n s at line) _ e in
            omega (arith, reads_near f w n u.value s at u.place line u.first, found_place u.then);
        prefix = λ s k at line h. rw (reads_prefix f w n s k at line h) refl;
      }
