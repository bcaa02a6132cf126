-- A read keeps what is true of a store and its history.
use Rattle.std.proofs.Common.{◌≡◌, ℕ, Bool, true, false, cond, ltb, leb, List, ◌∷◌, length, get_or, drop, Some, None, Ok, Err, Option, Result, sym, refl, ap, ◌∙◌, subst}
use lib.Seq.{take-append_seam}
use Rattle.std.proofs.lemmas.List.{get_or_default}
use Rattle.std.proofs.lemmas.Bool.{ltb-false, leb-true, leb-false}
use Rattle.chip.specs.Meaning.{free, spoiled, written, page_at, Meaning}
use Rattle.chip.specs.Calls.{data_of}
use Rattle.ledger.specs.declared.refusal.Refusal.{Refusal}
use Rattle.ledger.specs.declared.refusal.Refusal.TheVariants.{NoSuchNumber, BufferTooShort}
use Rattle.ledger.specs.Of.{books_of}
use Rattle.history.specs.History.{read, refused, told, History}
use Rattle.history.proofs.Follows.{read_follows, unsaved_follows, short_follows, not_offered_follows}
use Rattle.pages.specs.Tied.{maps_of}
use Rattle.store.specs.State.{Standing}
use Rattle.store.specs.Effects.{stored_at, read_from, read_told, read_into, Same, Reads}
use Rattle.store.specs.Calls.{entry_read, bytes_read}
use Rattle.store.proofs.Invariant.{Inv, OpenInv, inv_open, shut_call, same_inv, some_pages}

module _ {C H : Type 0} {means : C → Meaning} (h : History) (s t : Standing means H) (n : ℕ) (before : List ℕ) (same : Same s t) where
  -- what is entered for an answer, with the bytes that stand there
  abbrev Enters : Option (List ℕ) → Result ℕ Refusal → Type 0
  Enters bytes r = Inv (entry_read n (length before) (bytes_read r (read_into r bytes before)) r ∷ h) t

  -- a page that the map names has the number as its label
  stored_page : (q : ℕ) → maps_of s.tables n ≡ Some q → OpenInv h s → (d : List ℕ) × (get_or s.chip.pages q free ≡ written n d) × (data_of (page_at s.chip q) ≡ d)
  stored_page q named inv =
      let l = inv.sound.at.tied.labelled n q named in
      let is = l.1.1 in
      (l.1.0, is, ap data_of (get_or_default s.chip.pages q spoiled free l.0 ∙ is))

  read_page : (q : ℕ) (d : List ℕ) (fits : Bool) → leb (length d) (length before) ≡ fits → maps_of s.tables n ≡ Some q → get_or s.chip.pages q free ≡ written n d → s.is_open ≡ true
      → OpenInv h s → Enters (Some d) (cond fits (Ok (length d)) (Err BufferTooShort))
  read_page q d true fits named is here inv =
      subst (λ (x : List ℕ). Inv (told n (length before) x ∷ h) t) (sym (take-append_seam d (drop (length d) before)))
      (same_inv h s t (told n (length before) d) here same inv (read_follows inv.follows (some_pages s) n (length before) q d named is (leb-true _ _ fits)))
  read_page q d false short named is here inv =
      same_inv h s t (refused (read n (length before)) 20) here same inv
      (short_follows inv.follows (some_pages s) n (length before) 20 q d named is (leb-false _ _ short))

  read_stored : (o : Option ℕ) → maps_of s.tables n ≡ o → s.is_open ≡ true → OpenInv h s
      → Enters (stored_at s.chip o) (read_from (stored_at s.chip o) (length before))
  read_stored None named here inv =
      same_inv h s t (refused (read n (length before)) 19) here same inv (unsaved_follows inv.follows (some_pages s) n (length before) 19 named)
  read_stored (Some q) named here inv =
      let p = stored_page q named inv in
      subst (λ (d : List ℕ). Enters (Some d) (read_from (Some d) (length before))) (sym p.2) (read_page q p.0 (leb (length p.0) (length before)) refl named p.1 here inv)

  read_known : (known : Bool) → ltb n s.ledger.frame.numbers ≡ known → s.is_open ≡ true → OpenInv h s
      → Enters (stored_at s.chip (maps_of s.tables n)) (cond known (read_from (stored_at s.chip (maps_of s.tables n)) (length before)) (Err NoSuchNumber))
  read_known true known here inv = read_stored (maps_of s.tables n) refl here inv
  read_known false past here inv =
      same_inv h s t (refused (read n (length before)) 17) here same inv (not_offered_follows inv.follows n (length before) 17 (ltb-false _ _ past))

  read_either : (o : Bool) → s.is_open ≡ o → Inv h s
      → Enters (stored_at s.chip (maps_of s.tables n)) (read_told o (books_of s.ledger) n (stored_at s.chip (maps_of s.tables n)) (length before))
  read_either true is inv = read_known (ltb n s.ledger.frame.numbers) refl is (inv_open h s is inv)
  read_either false is inv = shut_call h s t (refused (read n (length before)) 6) is same.rest refl inv

pub read_inv : {C H : Type 0} {means : C → Meaning} (h : History) (s t : Standing means H) (n : ℕ) (before after : List ℕ) (r : Result ℕ Refusal) → Reads s n before r t after
    → Inv h s → Inv (entry_read n (length before) (bytes_read r after) r ∷ h) t
read_inv h s t n before after r e inv =
    let bytes = stored_at s.chip (maps_of s.tables n) in
    subst (λ (x : List ℕ). Inv (entry_read n (length before) (bytes_read r x) r ∷ h) t) (sym e.1)
    (subst (λ (x : Result ℕ Refusal). Inv (entry_read n (length before) (bytes_read x (read_into x bytes before)) x ∷ h) t) (sym e.0)
    (read_either h s t n before e.2 s.is_open refl inv))
