-- What number a word is.
--
-- digit        the bytes of the digits 0 to 9
-- digit_of     the digit that a byte is
-- all_digits   every byte is a digit
-- read_on      the number that digits write after those of n
-- number_of    the number of a word of one digit or more, leading zeros allowed, up to 65,535; no other word is one
use Rattle.std.specs.Prelude.{ℕ, ◌+◌, ◌-◌, ◌*◌, Bool, true, cond, ◌&&◌, List, [], ◌∷◌, length, Some, None, Option, nat_le, nat_lt}

abbrev pub digit : ℕ → Bool
digit b = nat_le 48 b && nat_le b 57

abbrev pub digit_of : ℕ → Option ℕ
digit_of b = cond (digit b) (Some (b - 48)) None

abbrev pub all_digits : List ℕ → Bool
all_digits [] = true
all_digits (b ∷ bs) = digit b && all_digits bs

abbrev pub read_on : ℕ → List ℕ → ℕ
read_on n [] = n
read_on n (b ∷ bs) = read_on (n * 10 + (b - 48)) bs

-- the number that a word writes after the digits of n, if it is one
abbrev pub number_from : ℕ → List ℕ → Option ℕ
number_from n bs = cond (all_digits bs && nat_le (read_on n bs) 65535) (Some (read_on n bs)) None

abbrev pub number_of : List ℕ → Option ℕ
number_of word = cond (nat_lt 0 (length word)) (number_from 0 word) None
