-- Every entry keeps the books of every seat.
use Rattle.std.proofs.Common.{◌≡◌, ℕ, ◌+◌, ◌<◌, Bool, true, false, cond, not, eqb, List, [], ◌∷◌, Some, None, Option, sym, refl, ◌∙◌, subst, inl, inr, arith}
use Rattle.std.proofs.lemmas.Bool.{eqb-true, eqb-false, cases_eq, cond_both}
use Rattle.plan.specs.declared.numbers.Plan.{Plan}
use Rattle.ledger.specs.declared.frame.Frame.{Frame}
use Rattle.ledger.specs.declared.seat.Status.{Status}
use Rattle.ledger.specs.declared.seat.Status.TheVariants.{Empty, Serving, OnNotice}
use Rattle.ledger.specs.declared.seat.Seat.{Seat}
use Rattle.ledger.specs.Seats.{empty_status, took, gave_back, saved, served, renewed, at_end, turned}
use Rattle.ledger.specs.Books.{collector_share}
use Rattle.history.specs.History.{hands_back, Call, opening, admit, notice, take, hand_back, save, read, tick, Deed, admitted, noticed, granted, handed_back, stored, Entry, opened, did, told, ticked, refused, programmed, asked, erased, History, tick_of, seat_plan}
use Rattle.history.specs.Promise.{Given}
use Rattle.history.specs.Moves.{InUse, DeedStep, SaveRefused, RefusalStep, Step, Run, fresh, then_entry}
use Rattle.history.proofs.Periods.{plan_stays}
use Rattle.history.proofs.Books.{
  Books,
  Marks,
  Gone,
  books_untouched,
  books_took,
  books_gave_back,
  books_saved,
  books_warned,
  books_served,
  books_renewed,
  books_seated,
  gone_vacated,
  gone_untouched,
  gone_tick,
}
use Rattle.history.proofs.Plans.{planned_pays}
use Rattle.history.proofs.Marked.{
  marks_other,
  marks_opened,
  marks_told,
  marks_programmed,
  marks_asked,
  marks_erased,
  marks_granted,
  marks_handed_back,
  marks_stored,
  marks_noticed,
  marks_refused,
  gives_up_own,
  gives_up_other,
}

-- the books of a seat, by its status
abbrev pub BookedBy : ℕ → ℕ → History → Seat → Status → Type 0
BookedBy α i h s Empty = Given (seat_plan i h) (Unit {0}) (λ t. Gone i h t)
BookedBy α i h s Serving = Books α i h s false
BookedBy α i h s OnNotice = Books α i h s true

abbrev pub Booked : ℕ → ℕ → History → Seat → Type 0
Booked α i h s = BookedBy α i h s s.status

pub given_map : {P Q : Plan → Type 0} (o : Option Plan) → ((t : Plan) → P t → Q t) → Given o (Unit {0}) P → Given o (Unit {0}) Q
given_map (Some t) f p = f t p
given_map None f p = tt

-- a seat in use has books, and its status says whether it is under notice
abbrev pub status_of : Bool → Status
status_of false = Serving
status_of true = OnNotice

pub record OpenBooks (α i : ℕ) (h : History) (s : Seat) : Type 0 where
  pub leaving : Bool
  pub stands : s.status ≡ status_of leaving
  pub books : Books α i h s leaving

pub open_books : (α i : ℕ) (h : History) (s : Seat) (st : Status) → s.status ≡ st → (st ≡ Empty → ⊥) → BookedBy α i h s st → OpenBooks α i h s
open_books α i h s Empty q used k = absurd (used refl)
open_books α i h s Serving q used k = record { leaving = false; stands = q; books = k }
open_books α i h s OnNotice q used k = record { leaving = true; stands = q; books = k }

pub close_books : (α i : ℕ) (h : History) (s : Seat) (b : Bool) → s.status ≡ status_of b → Books α i h s b → Booked α i h s
close_books α i h s false q k = subst (BookedBy α i h s) (sym q) k
close_books α i h s true q k = subst (BookedBy α i h s) (sym q) k

pub in_use : (α i : ℕ) (h : History) (s : Seat) → InUse s → Booked α i h s → OpenBooks α i h s
in_use α i h s used k = open_books α i h s s.status refl used k

module _ (f : Frame) (i : ℕ) (h : History) where
  -- ---- an entry with no deed of the seat

  untouched_by : {e : Entry} (s : Seat) (st : Status) → tick_of e ≡ false → Marks i e false false false false → BookedBy f.alpha i h s st → BookedBy f.alpha i (e ∷ h) s st
  untouched_by {e = e} s Empty quiet m k =
      subst (λ o. Given o (Unit {0}) (λ t. Gone i (e ∷ h) t)) (sym (plan_stays i e h m.old)) (given_map (seat_plan i h) (λ t. gone_untouched quiet m) k)
  untouched_by s Serving quiet m k = books_untouched quiet k m
  untouched_by s OnNotice quiet m k = books_untouched quiet k m

  -- the seat's record stays as it was
  stays : {e : Entry} (a b : Seat) → tick_of e ≡ false → Marks i e false false false false → b ≡ a → Booked f.alpha i h a → Booked f.alpha i (e ∷ h) b
  stays {e = e} a b quiet m q k = subst (Booked f.alpha i (e ∷ h)) (sym q) (untouched_by a a.status quiet m k)

  -- ---- the deeds of the seat

  kept_admitted : (p w : ℕ) (plan : Plan) (a b : Seat) → DeedStep f i (admitted p w plan) a b → Booked f.alpha i (did i (admitted p w plan) ∷ h) b
  kept_admitted p w plan a b m =
      subst (Booked f.alpha i (did i (admitted p w plan) ∷ h)) (sym m.3)
      (books_seated f.alpha i p w plan (collector_share f) h (planned_pays f.alpha p w plan m.2))

  kept_noticed : (a b : Seat) → DeedStep f i noticed a b → Booked f.alpha i h a → Booked f.alpha i (did i noticed ∷ h) b
  kept_noticed a b m k =
      let books : Books f.alpha i h a false = subst (BookedBy f.alpha i h a) m.0 k in
      subst (Booked f.alpha i (did i noticed ∷ h)) (sym m.2) (books_warned refl books (marks_noticed i) m.1)

  kept_granted : (a b : Seat) → DeedStep f i granted a b → Booked f.alpha i h a → Booked f.alpha i (did i granted ∷ h) b
  kept_granted a b m k =
      let books : Books f.alpha i h a false = subst (BookedBy f.alpha i h a) m.0.0 k in
      subst (Booked f.alpha i (did i granted ∷ h)) (sym m.1)
      (close_books f.alpha i (did i granted ∷ h) (took a) false m.0.0 (books_took refl books (marks_granted i) refl m.0.1))

  -- by a hand back, or by a save that is refused for what it brings
  kept_returned : {e : Entry} (a b : Seat) → tick_of e ≡ false → Marks i e false true false false → InUse a → 0 < a.out → b ≡ gave_back a → Booked f.alpha i h a → Booked f.alpha i (e ∷ h) b
  kept_returned {e = e} a b quiet m used some q k =
      let o = in_use f.alpha i h a used k in
      subst (Booked f.alpha i (e ∷ h)) (sym q) (close_books f.alpha i (e ∷ h) (gave_back a) o.leaving o.stands (books_gave_back quiet o.books m some))

  kept_stored : (n : ℕ) (d : List ℕ) (t : ℕ) (a b : Seat) → DeedStep f i (stored n d t) a b → Booked f.alpha i h a → Booked f.alpha i (did i (stored n d t) ∷ h) b
  kept_stored n d t a b m k =
      let o = in_use f.alpha i h a m.0 k in
      subst (Booked f.alpha i (did i (stored n d t) ∷ h)) (sym m.2)
      (close_books f.alpha i (did i (stored n d t) ∷ h) (saved a) o.leaving o.stands (books_saved refl o.books (marks_stored i n d t) m.1))

  kept_deed : (d : Deed) (a b : Seat) → DeedStep f i d a b → Booked f.alpha i h a → Booked f.alpha i (did i d ∷ h) b
  kept_deed (admitted p w plan) a b m _ = kept_admitted p w plan a b m
  kept_deed noticed a b m k = kept_noticed a b m k
  kept_deed granted a b m k = kept_granted a b m k
  kept_deed handed_back a b m k = kept_returned a b refl (marks_handed_back i) m.0 m.1 m.2 k
  kept_deed (stored n d t) a b m k = kept_stored n d t a b m k

  kept_did : (j : ℕ) (d : Deed) (a b : Seat) → Step f i (did j d) a b → Booked f.alpha i h a → Booked f.alpha i (did j d ∷ h) b
  kept_did j d a b m k =
      elim (cases_eq j i) [
        | inl same ↦ subst (λ x. Booked f.alpha i (did x d ∷ h) b) (sym same) (kept_deed d a b (m.0 same) k)
        | inr apart ↦ stays a b refl (marks_other i j d apart) (m.1 apart) k
      ]

  -- ---- refusals

  kept_save_refused : (n : ℕ) (d : List ℕ) (why : ℕ) (a b : Seat) (x : Bool) → hands_back why ≡ x → SaveRefused f i x a b → Booked f.alpha i h a → Booked f.alpha i (refused (save i n d) why ∷ h) b
  kept_save_refused n d why a b true q m k = kept_returned a b refl (marks_refused i (save i n d) why (gives_up_own i n d why ∙ q)) m.0 m.1 m.2 k
  kept_save_refused n d why a b false q m k = stays a b refl (marks_refused i (save i n d) why (gives_up_own i n d why ∙ q)) m.1 k

  kept_save : (j n : ℕ) (d : List ℕ) (why : ℕ) (a b : Seat) → RefusalStep f i (save j n d) why a b → Booked f.alpha i h a → Booked f.alpha i (refused (save j n d) why ∷ h) b
  kept_save j n d why a b m k =
      elim (cases_eq j i) [
        | inl same ↦ subst (λ x. Booked f.alpha i (refused (save x n d) why ∷ h) b) (sym same) (kept_save_refused n d why a b (hands_back why) refl (m.0 same) k)
        | inr apart ↦ stays a b refl (marks_refused i (save j n d) why (gives_up_other i j n d why apart)) (m.1 apart) k
      ]

  kept_refused : (c : Call) (why : ℕ) (a b : Seat) → RefusalStep f i c why a b → Booked f.alpha i h a → Booked f.alpha i (refused c why ∷ h) b
  kept_refused (opening x y p) why a b m k = stays a b refl (marks_refused i (opening x y p) why refl) m k
  kept_refused (admit j p w) why a b m k = stays a b refl (marks_refused i (admit j p w) why refl) m k
  kept_refused (notice j) why a b m k = stays a b refl (marks_refused i (notice j) why refl) m.1 k
  kept_refused (take j) why a b m k = stays a b refl (marks_refused i (take j) why refl) m.1 k
  kept_refused (hand_back j) why a b m k = stays a b refl (marks_refused i (hand_back j) why refl) m.1 k
  kept_refused (save j n d) why a b m k = kept_save j n d why a b m k
  kept_refused (read n r) why a b m k = stays a b refl (marks_refused i (read n r) why refl) m k
  kept_refused tick why a b m k = stays a b refl (marks_refused i tick why refl) m k

  -- ---- ticks

  module _ (n r c t : ℕ) (a : Seat) where
    -- the meta-period goes on
    kept_served : (b : Bool) → a.status ≡ status_of b → Books f.alpha i h a b → eqb (a.elapsed + 1) a.plan.meta_period ≡ false
        → Booked f.alpha i (ticked n r c t ∷ h) (served f.alpha a)
    kept_served b st k more =
        let apart = eqb-false (a.elapsed + 1) a.plan.meta_period more in
        close_books f.alpha i (ticked n r c t ∷ h) (served f.alpha a) b st (books_served n r c t k (omega (arith, k.before_turn, apart)))

    -- it ends
    kept_renewed : a.status ≡ Serving → Books f.alpha i h a false → a.elapsed + 1 ≡ a.plan.meta_period
        → Booked f.alpha i (ticked n r c t ∷ h) (at_end a.status (served f.alpha a))
    kept_renewed st k full =
        let e = ticked n r c t in
        subst (λ x. Booked f.alpha i (e ∷ h) (at_end x (served f.alpha a))) (sym st)
        (close_books f.alpha i (e ∷ h) (renewed (served f.alpha a)) false st (books_renewed n r c t k refl full))

    kept_emptied : a.status ≡ OnNotice → Books f.alpha i h a true → a.elapsed + 1 ≡ a.plan.meta_period
        → Booked f.alpha i (ticked n r c t ∷ h) (at_end a.status (served f.alpha a))
    kept_emptied st k full =
        let e = ticked n r c t in
        subst (λ x. Booked f.alpha i (e ∷ h) (at_end x (served f.alpha a))) (sym st)
        (subst (λ o. Given o (Unit {0}) (λ u. Gone i (e ∷ h) u)) (sym k.plan_is) (gone_vacated n r c t k full))

    kept_tick : (st : Status) → a.status ≡ st → BookedBy f.alpha i h a st
        → Booked f.alpha i (ticked n r c t ∷ h) (cond (not (empty_status st)) (turned (served f.alpha a)) a)
    kept_tick Empty q k =
        subst (BookedBy f.alpha i (ticked n r c t ∷ h) a) (sym q) (given_map (seat_plan i h) (λ u. gone_tick n r c t) k)
    kept_tick Serving q k =
        cond_both (eqb (a.elapsed + 1) a.plan.meta_period) _ _ (Booked f.alpha i (ticked n r c t ∷ h))
        (λ full. kept_renewed q k (eqb-true (a.elapsed + 1) a.plan.meta_period full))
        (kept_served false q k)
    kept_tick OnNotice q k =
        cond_both (eqb (a.elapsed + 1) a.plan.meta_period) _ _ (Booked f.alpha i (ticked n r c t ∷ h))
        (λ full. kept_emptied q k (eqb-true (a.elapsed + 1) a.plan.meta_period full))
        (kept_served true q k)

  -- ---- every entry

  pub kept : (e : Entry) (a b : Seat) → Step f i e a b → Booked f.alpha i h a → Booked f.alpha i (e ∷ h) b
  kept (opened m y p) a b q k = stays a b refl (marks_opened i m y p) q k
  kept (did j d) a b q k = kept_did j d a b q k
  kept (told n r d) a b q k = stays a b refl (marks_told i n r d) q k
  kept (ticked n r c t) a b q k = subst (Booked f.alpha i (ticked n r c t ∷ h)) (sym q) (kept_tick n r c t a a.status refl k)
  kept (refused c why) a b q k = kept_refused c why a b q k
  kept (programmed p l d g) a b q k = stays a b refl (marks_programmed i p l d g) q k
  kept (asked x) a b q k = stays a b refl (marks_asked i x) q k
  kept (erased x) a b q k = stays a b refl (marks_erased i x) q k

-- the books of each seat stand after every history of moves
pub booked : {f : Frame} {h : History} {l : ℕ → Seat} → Run f h l → (i : ℕ) → Booked f.alpha i h (l i)
booked {f = f} {l = l} (fresh none) i = subst (BookedBy f.alpha i [] (l i)) (sym (none i)) tt
booked {f = f} {l = m} (then_entry {h = h} {l = l} e run answer step) i = kept f i h e (l i) (m i) (step i) (booked run i)
