-- A copy of a page, over plain values.
use Rattle.std.proofs.lemmas.Grind.{common_steps}
use Rattle.std.proofs.Common.{◌≡◌, ℕ, ◌-◌, ◌<◌, ◌≤◌, true, ◌&&◌, ltb, List, length, take, Some, None, Ok, Err, Option, Result, sym, ap, ◌∙◌, subst, inr, arith}
use Rattle.std.proofs.lemmas.Bool.Decides.{nat_tests}
use Rattle.chip.specs.Meaning.{written, Meaning}
use Rattle.chip.specs.Calls.{fetched, fetched_into}
use Rattle.ledger.specs.declared.refusal.Refusal.{Refusal as StoreRefusal}
use Rattle.history.specs.Pages.{names, is_live}
use Rattle.pages.specs.declared.tables.Tables.{Tables}
use Rattle.pages.specs.Tied.{maps_of, page_in}
use Rattle.pages.specs.Write.{CanWrite, Writes}
use Rattle.pages.specs.Copy.{live_in, CanCopy, Copies}

pub named : (t : Tables) (l q : ℕ) → true ≡ (ltb l 1920 && names (maps_of t l) q) → (l < 1920) × (names (maps_of t l) q ≡ true)
named t l q told = (grind (arith, nat_tests), grind (arith, nat_tests))

-- ---- what a fetch tells

pub record Told (m : Meaning) (q room l size : ℕ) : Type 0 where
  pub bytes : List ℕ
  pub there : q < length m.pages
  pub is : page_in m.pages q ≡ written l bytes
  pub long : size ≡ length bytes
  pub fits : length bytes ≤ room

pub fetched_told : (m : Meaning) (q room l size : ℕ) → Ok (l, size) ≡ fetched m q room → Told m q room l size
fetched_told m q room l size told = grind (arith, common_steps)

-- ---- a live page is written elsewhere

is_named : (o : Option ℕ) (q : ℕ) → names o q ≡ true → o ≡ Some q
is_named None q h = absurd (grind arith)
is_named (Some r) q h = let e : r ≡ q = grind (arith, nat_tests) in ap Some e

-- the front of the buffer is the data
fetched_front : (m : Meaning) (q room l size : ℕ) (buffer : List ℕ) (told : Told m q room l size) → take (size - 0) (fetched_into m q (Ok (l, size)) buffer) ≡ told.bytes
fetched_front m q room l size buffer told = grind (arith, common_steps)

moved : (m n : Meaning) (t u : Tables) (b q l : ℕ) (d : List ℕ) (r : Result ℕ StoreRefusal) → maps_of t l ≡ Some q → page_in m.pages q ≡ written l d
    → Writes m t (Some b) l d r n u → Copies m t b q r n u
moved m n t u b q l d (Err e) NamedBy is w = w
moved m n t u b q l d (Ok tries) NamedBy is w = inr (l, d, NamedBy, is, w)

pub moved_on : (m o n : Meaning) (t u : Tables) (b q room l size : ℕ) (before after : List ℕ) (r : Result ℕ StoreRefusal) → CanCopy m t b q room → Told m q room l size → o ≡ m
    → l < 1920 → names (maps_of t l) q ≡ true → after ≡ fetched_into m q (Ok (l, size)) before
    → (CanWrite o t (Some b) l (length (take (size - 0) after)) → Writes o t (Some b) l (take (size - 0) after) r n u) → Copies m t b q r n u
moved_on m o n t u b q room l size before after r can told same known is-live-by got write =
    let d = told.bytes in
    let by = is_named (maps_of t l) q is-live-by in
    let k = can.tied.labelled l q by in
    let e : written l k.1.0 ≡ written l d = sym k.1.1 ∙ told.is in
    let f : k.1.0 ≡ d = cc (e) in
    let bytes : take (size - 0) after ≡ d = ap (take (size - 0)) got ∙ fetched_front m q room l size before told in
    let live : live_in m t q ≡ true = ap (is_live (maps_of t) q) told.is ∙ is-live-by in
    let ready : CanWrite m t (Some b) l (length d) =
    record { tied = can.tied; known = known; fits = omega (arith, k.1.2, ap length f); skips = can.block; room = can.room live } in
    let goes : CanWrite m t (Some b) l (length d) → Writes m t (Some b) l d r n u =
    subst (λ x. CanWrite m t (Some b) l (length x) → Writes m t (Some b) l x r n u) bytes
    (subst (λ x. CanWrite x t (Some b) l (length (take (size - 0) after)) → Writes x t (Some b) l (take (size - 0) after) r n u) same write) in
    moved m n t u b q l d r by told.is (goes ready)
