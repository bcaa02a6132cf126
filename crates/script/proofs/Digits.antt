-- Digits that a loop reads, one after another. Assumes nothing.
use Rattle.std.proofs.Common.{◌≡◌, ℕ, ◌-◌, ◌+◌, ◌*◌, ◌<◌, ◌≤◌, ◌&&◌, leb, List, [], ◌∷◌, length, get_or, drop, Some, None, ◌∙◌, arith}
use Rattle.std.proofs.lemmas.List.{at_drop_more}
use Rattle.std.proofs.lemmas.Bool.{and_right, lt-leb, cond-false}
use Rattle.script.specs.Numbers.{all_digits, read_on, number_from}

-- more digits never make a number less
grows : (n : ℕ) (bs : List ℕ) → n ≤ read_on n bs
grows n [] = omega arith
grows n (b ∷ bs) = omega (arith, grows (n * 10 + (b - 48)) bs)

-- nor bring one that is past the largest back
pub too_large : (n : ℕ) (bs : List ℕ) → 65535 < n → number_from n bs ≡ None
too_large n bs over =
    cond-false (all_digits bs && leb (read_on n bs) 65535) (Some (read_on n bs)) None (and_right (all_digits bs) (leb (read_on n bs) 65535) (lt-leb (read_on n bs) 65535 (omega (arith, grows n bs))))

-- the byte at which a number passes the largest
pub past_most : (word : List ℕ) (i n : ℕ) → i < length word → 65535 < n * 10 + (get_or word i 0 - 48) → number_from n (drop i word) ≡ None
past_most word i n here over =
    let b = get_or word i 0 in
    let rest = drop (i + 1) word in
    at_drop_more (number_from n) word i 0 here ∙ cond-false (all_digits (b ∷ rest) && leb (read_on n (b ∷ rest)) 65535) (Some (read_on n (b ∷ rest))) None (and_right (all_digits (b ∷ rest)) (leb (read_on n (b ∷ rest)) 65535) (lt-leb (read_on n (b ∷ rest)) 65535 (omega (arith, grows (n * 10 + (b - 48)) rest))))
