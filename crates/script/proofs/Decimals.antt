-- Digits that a loop writes, the last one first. Assumes nothing.
use Rattle.std.proofs.Common.{◌≡◌, ℕ, ◌+◌, ◌-◌, ◌/◌, ◌%◌, ◌^◌, ◌<◌, ◌≤◌, List, [], ◌∷◌, ◌++◌, length, take, drop, set, decimal, sym, ap, ◌∙◌, arith}
use Rattle.std.proofs.lemmas.Fmt.{decimal_digit, decimal_step, decimal_nonempty, length-decimal-le}
use Rattle.std.proofs.lemmas.List.{append_assoc, append-nil, length-append, length-drop, length-set, drop-set, take_all}

-- the digits of `rest` have yet to be written, the last of them at `first`
pub record Wrote (number rest first : ℕ) (digits : List ℕ) : Type 0 where
  pub places : length digits ≡ 10
  pub within : first ≤ 9
  pub less : rest ≤ number
  pub room : length (decimal rest) ≤ first + 1
  pub same : decimal number ≡ decimal rest ++ drop (first + 1) digits

pub wrote_none : (number : ℕ) (digits : List ℕ) → number < 2 ^ 32 → length digits ≡ 10 → drop 10 digits ≡ [] → Wrote number number 9 digits
wrote_none number digits fits long none =
    record {
      places = long;
      within = omega arith;
      less = omega arith;
      room = length-decimal-le 10 number (omega arith) (omega arith) (omega arith);
      same = sym (ap (λ ds. decimal number ++ ds) none ∙ append-nil (decimal number));
    }

module _ (number rest first : ℕ) (digits : List ℕ) (fits : number < 2 ^ 32) (w : Wrote number rest first digits) where
  last_at : (d : ℕ) → drop first (set digits first d) ≡ d ∷ drop (first + 1) digits
  last_at d = drop-set digits first d (omega arith)

  -- two digits left have two places left
  pub room_left : 10 ≤ rest → 1 ≤ first
  room_left two =
      let step = ap length (decimal_step rest two (omega arith)) ∙ length-append (decimal (rest / 10)) ((48 + rest % 10) ∷ []) in
      let some = decimal_nonempty (rest / 10) (omega arith) in
      omega arith

  pub wrote_more : 10 ≤ rest → Wrote number (rest / 10) (first - 1) (set digits first (48 + rest % 10))
  wrote_more two =
      let step = decimal_step rest two (omega arith) in
      let long = ap length step ∙ length-append (decimal (rest / 10)) ((48 + rest % 10) ∷ []) in
      let back : first - 1 + 1 ≡ first = omega (arith, room_left two) in
      record {
        places = length-set digits first (48 + rest % 10) ∙ w.places;
        within = omega arith;
        less = omega arith;
        room = omega arith;
        same = rw back (w.same ∙ (ap (λ ds. ds ++ drop (first + 1) digits) step ∙ (append_assoc (decimal (rest / 10)) ((48 + rest % 10) ∷ []) (drop (first + 1) digits) ∙ ap (λ ds. decimal (rest / 10) ++ ds) (sym (last_at (48 + rest % 10))))));
      }

  pub wrote_all : rest < 10 → take (10 - first) (drop first (set digits first (48 + rest))) ≡ decimal number
  wrote_all one =
      let long = length-drop first (set digits first (48 + rest)) ∙ ap (λ n. n - first) (length-set digits first (48 + rest)) in
      take_all (10 - first) (drop first (set digits first (48 + rest))) (omega arith) ∙ (last_at (48 + rest) ∙ sym (w.same ∙ ap (λ ds. ds ++ drop (first + 1) digits) (decimal_digit rest one)))
