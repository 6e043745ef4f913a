-- Numbers as they are written, computed: of one digit and of two, past 32 bits, of twelve digits, and the greatest of 64 bits.
use Rattle.std.specs.Prelude.{◌≡◌, refl}
use Rattle.text.specs.Key.{bytes}
use Rattle.text.specs.Decimal.{digits, width, decimal}

pub decimal_cases :
    (decimal 0 ≡ bytes "0")
    × (decimal 10 ≡ bytes "10")
    × (decimal 4294967296 ≡ bytes "4294967296")
    × (decimal 999999999999 ≡ bytes "999999999999")
    × (decimal 18446744073709551615 ≡ bytes "18446744073709551615")
unfolding digits width decimal
decimal_cases = (refl, refl, refl, refl, refl)
