-- The two theories give the promise.
use Rattle.std.proofs.Common.{◌≡◌, ℕ, ◌<◌, ◌≤◌, Bool, true, false, eqb, List, [], ◌∷◌, length, Some, None, Option, sym, refl, ap, ◌∙◌, inl, inr, arith}
use Rattle.std.proofs.lemmas.Bool.{or_cases, eqb-true}
use Rattle.chip.specs.Meaning.{Page}
use Rattle.plan.specs.declared.numbers.Plan.{Plan}
use Rattle.ledger.specs.declared.frame.Frame.{Frame}
use Rattle.history.specs.History.{
  hands_back,
  opening,
  admit,
  notice,
  take,
  hand_back,
  save,
  read,
  tick,
  admitted,
  noticed,
  granted,
  handed_back,
  stored,
  Entry,
  opened,
  did,
  told,
  ticked,
  refused,
  programmed,
  asked,
  erased,
  History,
  opening_of,
  seat_plan,
  permits_out,
}
use Rattle.history.specs.Promise.{Given, MayReturn, MaySave, OutOfRange, Every}
use Rattle.history.specs.Coupled.{AllAllowed, SaveAnswered}
use Rattle.history.specs.Work.{Tried, none, again, Written, Still, Worked, at_open, after_save, after_copy, after_erase, after_call}
use Rattle.history.specs.Joined.{AllOnPages, PromiseStands}
use Rattle.history.proofs.Kept.{seats_kept}
use Rattle.history.proofs.Laws.{work_keeps}

-- ---- saves

module _ (f : Frame) (i n : ℕ) (d : List ℕ) (h : History) where
  save_by : (o : Option Plan) → n < f.numbers → length d ≤ f.page_size → Given o ⊥ (λ t. 0 < permits_out i h)
      → Given o ⊥ (λ t. (0 < permits_out i h) × (n < f.numbers) × (length d ≤ f.page_size))
  save_by (Some t) known fits out = (out, known, fits)
  save_by None known fits out = out

  -- a permit is out, and number and length are in range
  pub may_save : n < f.numbers → length d ≤ f.page_size → MayReturn i h → MaySave f i n d h
  may_save known fits out = save_by (seat_plan i h) known fits out

  save_parts : (o : Option Plan) → Given o ⊥ (λ t. (0 < permits_out i h) × (n < f.numbers) × (length d ≤ f.page_size))
      → Given o ⊥ (λ t. 0 < permits_out i h) × (n < f.numbers) × (length d ≤ f.page_size)
  save_parts (Some t) may = may
  save_parts None may = absurd may

  -- and no other save is allowed
  pub no_save_without : (MayReturn i h → ⊥) → MaySave f i n d h → ⊥
  no_save_without without may = without (save_parts (seat_plan i h) may).0

  pub no_save_past : f.numbers ≤ n → MaySave f i n d h → ⊥
  no_save_past past may = let p = (save_parts (seat_plan i h) may).1 in omega arith

  pub no_save_longer : f.page_size < length d → MaySave f i n d h → ⊥
  no_save_longer long may = let p = (save_parts (seat_plan i h) may).2 in omega arith

  save_refused : (why : ℕ) (back : Bool) → hands_back why ≡ back → SaveAnswered back i h → OutOfRange f n d why
      → (MaySave f i n d h → ⊥) × (hands_back why ≡ true → MayReturn i h) × OutOfRange f n d why
  save_refused why true q out range = (
    (λ may.
        elim (or_cases (eqb why 17) (eqb why 18) q) [
          | inl number ↦ no_save_past (range.0 (eqb-true why 17 number)) may
          | inr long ↦ no_save_longer (range.1 (eqb-true why 18 long)) may
        ]),
    (λ back. out),
    range,
  )
  save_refused why false q without range = (no_save_without without, (λ back. let z : true ≡ false = sym back ∙ q in absurd (true_false z)), range)
    where
      true_false : true ≡ false → ⊥
      true_false z = let y : ◌≡◌ {A = ℕ} 0 1 = cc in omega arith

-- ---- every entry is right

module _ (f : Frame) where
  pub every_from : (h : History) → AllAllowed f.alpha h → AllOnPages f h → Every f h
  every_from [] a p = tt
  every_from (opened m y q ∷ h) a p = (p.0, every_from h a.1 p.1)
  every_from (did i (admitted s w k) ∷ h) a p = (a.0, every_from h a.1 p.1)
  every_from (did i noticed ∷ h) a p = (a.0, every_from h a.1 p.1)
  every_from (did i granted ∷ h) a p = (a.0, every_from h a.1 p.1)
  every_from (did i handed_back ∷ h) a p = (a.0, every_from h a.1 p.1)
  every_from (did i (stored n d t) ∷ h) a p = ((may_save f i n d h p.0.0 p.0.1 a.0, p.0.2), every_from h a.1 p.1)
  every_from (told n r d ∷ h) a p = (p.0, every_from h a.1 p.1)
  every_from (ticked n r c t ∷ h) a p = ((a.0, p.0.0, p.0.1, p.0.2), every_from h a.1 p.1)
  every_from (refused (opening m y q) why ∷ h) a p = (p.0, every_from h a.1 p.1)
  every_from (refused (admit i q w) why ∷ h) a p = (tt, every_from h a.1 p.1)
  every_from (refused (notice i) why ∷ h) a p = (a.0, every_from h a.1 p.1)
  every_from (refused (take i) why ∷ h) a p = (a.0, every_from h a.1 p.1)
  every_from (refused (hand_back i) why ∷ h) a p = (a.0, every_from h a.1 p.1)
  every_from (refused (save i n d) why ∷ h) a p = (save_refused f i n d h why (hands_back why) refl a.0 p.0, every_from h a.1 p.1)
  every_from (refused (read n r) why ∷ h) a p = (p.0, every_from h a.1 p.1)
  every_from (refused tick why ∷ h) a p = (p.0, every_from h a.1 p.1)
  every_from (programmed q l d g ∷ h) a p = (tt, every_from h a.1 p.1)
  every_from (asked b ∷ h) a p = (p.0, every_from h a.1 p.1)
  every_from (erased b ∷ h) a p = (p.0, every_from h a.1 p.1)

-- ---- the opening

still_opening : (e : Entry) (h : History) → Still e → opening_of (e ∷ h) ≡ opening_of h
still_opening (opened m y p) h s = absurd s
still_opening (did i d) h s = refl
still_opening (told n r d) h s = refl
still_opening (ticked a b c d) h s = refl
still_opening (refused c why) h s = refl
still_opening (programmed q l d g) h s = absurd s
still_opening (asked b) h s = refl
still_opening (erased b) h s = absurd s

module _ {over : ℕ → Bool} {l : ℕ} {d : List ℕ} {h : History} {pages : List Page} {start : ℕ} where
  tried_opening : {n : ℕ} {t : History} {left : List Page} {from : ℕ} → Tried over l d h pages start n t left from → opening_of t ≡ opening_of h
  tried_opening none = refl
  tried_opening (again q r at) = tried_opening r

  written_opening : {tries : ℕ} {h' : History} {maps maps' : ℕ → Option ℕ} {pages' : List Page} {start' : ℕ} → Written over l d tries h maps pages start h' maps' pages' start'
      → opening_of h' ≡ opening_of h
  written_opening w = ap opening_of w.answers ∙ tried_opening w.tried

-- a store that works was opened with what its frame says
pub work_opened : {f : Frame} {h : History} {maps : ℕ → Option ℕ} {pages : List Page} → Worked f h maps pages → opening_of h ≡ Some (f.numbers, f.alpha, f.pool)
work_opened (at_open before shut unmapped) = refl
work_opened (after_save i n d tries r w) = written_opening w ∙ work_opened r
work_opened (after_copy l q d r named is w) = written_opening w ∙ work_opened r
work_opened (after_erase b r there emptied) = work_opened r
work_opened (after_call {h = h} e r s) = still_opening e h s ∙ work_opened r

pub promise_stands : PromiseStands
promise_stands f h l v some run shows work pages =
    let s = seats_kept f h l v run shows in
    let w = work_keeps f h v.maps v.pages some work in
    record { opened_with = work_opened work; every = every_from f h s.0 pages; kept = w.0; named = w.1; chip = w.2; seats = s.2 }
