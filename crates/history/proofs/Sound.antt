-- What was saved last is kept, by every history that the store's work can make.
use Rattle.std.proofs.Common.{◌≡◌, ℕ, zero, suc, ◌+◌, ◌*◌, ◌/◌, ◌<◌, ◌≤◌, Bool, true, false, cond, eqb, ◌≢◌, List, ◌∷◌, length, get_or, set, Some, None, Option, sym, refl, ap, ◌∙◌, subst, inl, inr, arith, length-set, get_or-set_other, get_or-set_same}
use native.Mathlib.Decide.{ℕ_discrete}
use lib.ListN.{length-replicate, get_or-replicate}
use Rattle.std.proofs.lemmas.List.{get_or_past}
use Rattle.std.proofs.lemmas.Bool.{cases_lt, cond-true, cond-false, eq-eqb, ne_eqb}
use Rattle.chip.specs.Meaning.{Page, free, spoiled, written}
use Rattle.chip.specs.Calls.{wiped}
use Rattle.ledger.specs.declared.frame.Frame.{Frame}
use Rattle.history.specs.History.{
  admitted,
  noticed,
  granted,
  handed_back,
  stored,
  Entry,
  opened,
  did,
  told,
  ticked,
  refused,
  programmed,
  asked,
  erased,
  History,
  holder,
  page_after,
  last_saved,
}
use Rattle.history.specs.Promise.{Stands, Kept, Named, Held}
use Rattle.history.specs.Work.{Tried, none, again, Written, erased_first, Still, Emptied, Worked, at_open, after_save, after_copy, after_erase, after_call}
use Rattle.history.proofs.Chip.{held_programmed, held_erased, named_good, block_range, block_outside, block_fits, length_wiped, wiped_inside, wiped_outside}

-- a written page is no free page, and is on the chip
pub written_there : (pages : List Page) (q l : ℕ) (d : List ℕ) → get_or pages q free ≡ written l d → q < length pages
written_there pages q l d is =
    elim (cases_lt q (length pages)) [
      | inl there ↦ there
      | inr past ↦ (let e = get_or_past pages q free past in let z : ◌≡◌ {A = ℕ} 0 1 = cc in absurd (omega arith))
    ]

-- what stands under a number goes on to stand if its label's page does
pub stands_on : (maps now : ℕ → Option ℕ) (pages after : List Page) (n : ℕ) (saved : Option (List ℕ)) → now n ≡ maps n
    → ((q : ℕ) (d : List ℕ) → maps n ≡ Some q → get_or pages q free ≡ written n d → get_or after q free ≡ written n d)
    → Stands maps pages n saved → Stands now after n saved
stands_on maps now pages after n None same goes was = same ∙ was
stands_on maps now pages after n (Some d) same goes was = (was.0, same ∙ was.1, goes was.0 d was.1 was.2)

-- what the map leads to is what was saved last, and where it leads nowhere nothing was saved
pub saved_is : (maps : ℕ → Option ℕ) (pages : List Page) (l q : ℕ) (d : List ℕ) (saved : Option (List ℕ)) → maps l ≡ Some q → get_or pages q free ≡ written l d → Stands maps pages l saved → saved ≡ Some d
saved_is maps pages l q d None named is stands = cc
saved_is maps pages l q d (Some e) named is stands =
    let a = stands.1 in
    let b : get_or pages q free ≡ written l e = (let s : stands.0 ≡ q = cc in ap (λ k. get_or pages k free) (sym s) ∙ stands.2) in
    cc

pub none_saved : (maps : ℕ → Option ℕ) (pages : List Page) (l : ℕ) (saved : Option (List ℕ)) → maps l ≡ None → Stands maps pages l saved → saved ≡ None
none_saved maps pages l None unmapped stands = refl
none_saved maps pages l (Some d) unmapped stands = let a = stands.1 in cc

pub mapped_written : (maps : ℕ → Option ℕ) (pages : List Page) (l q : ℕ) (saved : Option (List ℕ)) → maps l ≡ Some q → Stands maps pages l saved → (d : List ℕ) × (get_or pages q free ≡ written l d)
mapped_written maps pages l q None named stands = let z : ◌≡◌ {A = ℕ} 0 1 = cc in absurd (omega arith)
mapped_written maps pages l q (Some d) named stands =
    let a = stands.1 in
    let s : stands.0 ≡ q = cc in
    (d, ap (λ k. get_or pages k free) (sym s) ∙ stands.2)

-- ---- one chip operation

-- a program on a free page leaves the written ones
pub written_stays : (pages : List Page) (p q l : ℕ) (d : List ℕ) (x : Page) → get_or pages p free ≡ free → get_or pages q free ≡ written l d → get_or (set pages p x) q free ≡ written l d
written_stays pages p q l d x room is =
    elim (ℕ_discrete q p) [
      | yes same ↦ (let e : get_or pages p free ≡ written l d = ap (λ k. get_or pages k free) (sym same) ∙ is in let z : ◌≡◌ {A = ℕ} 0 1 = cc in absurd (omega arith))
      | no apart ↦ get_or-set_other pages p q x free apart ∙ is
    ]

-- a good program of another label
pub stands_other : (maps now : ℕ → Option ℕ) (pages : List Page) (p l n : ℕ) (d : List ℕ) (saved : Option (List ℕ)) → get_or pages p free ≡ free → now n ≡ maps n
    → Stands maps pages n saved → Stands now (set pages p (written l d)) n saved
stands_other maps now pages p l n d saved room same =
    stands_on maps now pages (set pages p (written l d)) n saved same (λ q e named is. written_stays pages p q n e (written l d) room is)

-- a good program of the label
pub stands_new : (now : ℕ → Option ℕ) (pages : List Page) (p n : ℕ) (d : List ℕ) → p < length pages → now n ≡ Some p → Stands now (set pages p (written n d)) n (Some d)
stands_new now pages p n d there mapped = (p, mapped, get_or-set_same pages p (written n d) free there)

-- the erase of a block that holds no live page
pub stands_erased : (maps : ℕ → Option ℕ) (pages : List Page) (size b n : ℕ) (saved : Option (List ℕ)) → b * size + size ≤ length pages → Emptied size b maps
    → Stands maps pages n saved → Stands maps (wiped size b pages) n saved
stands_erased maps pages size b n saved fits emptied =
    stands_on maps maps pages (wiped size b pages) n saved refl (λ q d named is. wiped_outside size b pages fits q (block_outside size q b (emptied n q named)) ∙ is)

-- the erase of a block that holds the page of a saved number breaks what the store promised
pub live_erase_breaks : (maps : ℕ → Option ℕ) (pages : List Page) (size b n q : ℕ) (d : List ℕ) → 0 < size → b * size + size ≤ length pages
    → maps n ≡ Some q → q / size ≡ b → Stands maps (wiped size b pages) n (Some d) → ⊥
live_erase_breaks maps pages size b n q d some fits named inside stands =
    let r = block_range size q b some inside in
    let e = wiped_inside size b pages fits q r.0 r.1 in
    let t = stands.1 in
    let s : stands.0 ≡ q = cc in
    let f : get_or (wiped size b pages) q free ≡ written n d = ap (λ k. get_or (wiped size b pages) k free) (sym s) ∙ stands.2 in
    let z : ◌≡◌ {A = ℕ} 0 1 = cc (e, f) in
    omega arith

-- ---- failed tries change nothing that is saved

module _ {over : ℕ → Bool} {l : ℕ} {d : List ℕ} {h : History} {pages : List Page} {start : ℕ} where
  pub tried_length : {n : ℕ} {t : History} {left : List Page} {from : ℕ} → Tried over l d h pages start n t left from → length left ≡ length pages
  tried_length none = refl
  tried_length (again {left = left} q r at) = length-set left q spoiled ∙ tried_length r

  tried_holder : {n : ℕ} {t : History} {left : List Page} {from : ℕ} (m : ℕ) → Tried over l d h pages start n t left from → holder m t ≡ holder m h
  tried_holder m none = refl
  tried_holder m (again q r at) = tried_holder m r

  tried_saved : {n : ℕ} {t : History} {left : List Page} {from : ℕ} (m : ℕ) → Tried over l d h pages start n t left from → last_saved m t ≡ last_saved m h
  tried_saved m none = refl
  tried_saved m (again q r at) = tried_saved m r

  tried_held : {n : ℕ} {t : History} {left : List Page} {from : ℕ} (size k : ℕ) → Held size k h pages → Tried over l d h pages start n t left from → Held size k t left
  tried_held size k held none = held
  tried_held size k held (again {t = t} {left = left} q r at) = held_programmed size k t left q l d false at.there (tried_held size k held r)

  tried_written : {n : ℕ} {t : History} {left : List Page} {from : ℕ} (q m : ℕ) (e : List ℕ) → get_or pages q free ≡ written m e → Tried over l d h pages start n t left from → get_or left q free ≡ written m e
  tried_written q m e is none = is
  tried_written q m e is (again {left = left} p r at) = written_stays left p q m e spoiled at.room (tried_written q m e is r)

  pub written_length : {tries : ℕ} {h' : History} {maps maps' : ℕ → Option ℕ} {pages' : List Page} {start' : ℕ} → Written over l d tries h maps pages start h' maps' pages' start' → length pages' ≡ length pages
  written_length w = ap length w.put ∙ length-set w.left w.place (written l d) ∙ tried_length w.tried

-- ---- what holds mark the opening on

module _ (blocks size : ℕ) where
  pub record Sound (h : History) (maps : ℕ → Option ℕ) (pages : List Page) : Type 0 where
    pub long : length pages ≡ blocks * size
    pub held : Held size (blocks * size) h pages
    pub named : Named h maps
    pub kept : Kept h maps pages

  -- a write: everything stands but what it was asked to write, which is new
  pub record Rewritten (l : ℕ) (d : List ℕ) (h : History) (maps : ℕ → Option ℕ) (pages : List Page) (h' : History) (maps' : ℕ → Option ℕ) (pages' : List Page) : Type 0 where
    pub long : length pages' ≡ blocks * size
    pub held : Held size (blocks * size) h' pages'
    pub named : Named h' maps'
    pub saved : (n : ℕ) → last_saved n h' ≡ last_saved n h
    pub new : Stands maps' pages' l (Some d)
    pub others : (n : ℕ) → n ≢ l → Stands maps' pages' n (last_saved n h)

  pub rewritten : {over : ℕ → Bool} {l : ℕ} {d : List ℕ} {tries : ℕ} {h h' : History} {maps maps' : ℕ → Option ℕ} {pages pages' : List Page} {start start' : ℕ} → Sound h maps pages → Written over l d tries h maps pages start h' maps' pages' start'
      → Rewritten l d h maps pages h' maps' pages'
  rewritten {over} {l} {d} {tries} {h} {h'} {maps} {maps'} {pages} {pages'} s w =
      record {
        long = written_length w ∙ s.long;
        held = λ q within.
            ap (λ x. get_or x q free) w.put
            ∙ held_programmed size (blocks * size) w.before w.left w.place l d true w.placed.there (tried_held size (blocks * size) s.held w.tried) q within
            ∙ sym (ap (page_after size q) w.answers);
        named = λ m. named_good w.before maps maps' w.place l d (λ k. s.named k ∙ sym (tried_holder k w.tried)) w.mapped w.others m ∙ sym (ap (holder m) w.answers);
        saved = λ n. ap (last_saved n) w.answers ∙ tried_saved n w.tried;
        new = subst (λ x. Stands maps' x l (Some d)) (sym w.put) (stands_new maps' w.left w.place l d w.placed.there w.mapped);
        others = λ n apart.
            stands_on maps maps' pages pages' n (last_saved n h) (w.others n apart)
            (λ q e named is. ap (λ x. get_or x q free) w.put ∙ written_stays w.left w.place q n e (written l d) w.placed.room (tried_written q n e is w.tried))
            (s.kept n);
      }

  -- a save enters what it wrote as saved
  sound_save : {h h' : History} {maps maps' : ℕ → Option ℕ} {pages pages' : List Page} (i n : ℕ) (d : List ℕ) (tries : ℕ) → Rewritten n d h maps pages h' maps' pages'
      → Sound (did i (stored n d tries) ∷ h') maps' pages'
  sound_save {h} {h'} {maps} {maps'} {pages} {pages'} i n d tries w =
      record { long = w.long; held = w.held; named = w.named; kept = kept }
    where
      kept : (m : ℕ) → Stands maps' pages' m (cond (eqb n m) (Some d) (last_saved m h'))
      kept m =
          elim (ℕ_discrete n m) [
            | yes same ↦ rw (cond-true (eqb n m) (Some d) (last_saved m h') (eq-eqb n m same)) (subst (λ k. Stands maps' pages' k (Some d)) same w.new)
            | no apart ↦ rw (cond-false (eqb n m) (Some d) (last_saved m h') (ne_eqb n m apart)) (rw (w.saved m) (w.others m (λ e. apart (sym e))))
          ]

  -- a copy writes what stood
  sound_copy : {h h' : History} {maps maps' : ℕ → Option ℕ} {pages pages' : List Page} (l q : ℕ) (d : List ℕ) → Sound h maps pages → maps l ≡ Some q → get_or pages q free ≡ written l d
      → Rewritten l d h maps pages h' maps' pages' → Sound h' maps' pages'
  sound_copy {h} {h'} {maps} {maps'} {pages} {pages'} l q d s named is w =
      record { long = w.long; held = w.held; named = w.named; kept = kept }
    where
      kept : (m : ℕ) → Stands maps' pages' m (last_saved m h')
      kept m =
          elim (ℕ_discrete m l) [
            | yes same ↦ (let e : last_saved m h' ≡ Some d = w.saved m ∙ ap (λ k. last_saved k h) same ∙ saved_is maps pages l q d (last_saved l h) named is (s.kept l) in
                rw e (subst (λ k. Stands maps' pages' k (Some d)) (sym same) w.new))
            | no apart ↦ rw (w.saved m) (w.others m apart)
          ]

  sound_erase : {h : History} {maps : ℕ → Option ℕ} {pages : List Page} (b : ℕ) → 0 < size → Sound h maps pages → b < blocks → Emptied size b maps → Sound (erased b ∷ h) maps (wiped size b pages)
  sound_erase {h} {maps} {pages} b some s there emptied =
      let fits : b * size + size ≤ length pages = omega (arith, block_fits size b blocks there, s.long) in
      record {
        long = length_wiped size b pages fits ∙ s.long;
        held = held_erased size (blocks * size) h pages b some fits s.held;
        named = s.named;
        kept = λ n. stands_erased maps pages size b n (last_saved n h) fits emptied (s.kept n);
      }

-- ---- entries that leave all as it is

still_saved : (n : ℕ) (h : History) (e : Entry) → Still e → last_saved n (e ∷ h) ≡ last_saved n h
still_saved n h (opened m y p) s = absurd s
still_saved n h (did i (admitted p w plan)) s = refl
still_saved n h (did i noticed) s = refl
still_saved n h (did i granted) s = refl
still_saved n h (did i handed_back) s = refl
still_saved n h (did i (stored m d t)) s = absurd s
still_saved n h (told m r d) s = refl
still_saved n h (ticked a b c d) s = refl
still_saved n h (refused c why) s = refl
still_saved n h (programmed q l d g) s = absurd s
still_saved n h (asked b) s = refl
still_saved n h (erased b) s = refl

still_holder : (l : ℕ) (h : History) (e : Entry) → Still e → holder l (e ∷ h) ≡ holder l h
still_holder l h (opened m y p) s = absurd s
still_holder l h (did i d) s = refl
still_holder l h (told m r d) s = refl
still_holder l h (ticked a b c d) s = refl
still_holder l h (refused c why) s = refl
still_holder l h (programmed q m d g) s = absurd s
still_holder l h (asked b) s = refl
still_holder l h (erased b) s = refl

still_page : (size q : ℕ) (h : History) (e : Entry) → Still e → page_after size q (e ∷ h) ≡ page_after size q h
still_page size q h (opened m y p) s = refl
still_page size q h (did i d) s = refl
still_page size q h (told m r d) s = refl
still_page size q h (ticked a b c d) s = refl
still_page size q h (refused c why) s = refl
still_page size q h (programmed p m d g) s = absurd s
still_page size q h (asked b) s = refl
still_page size q h (erased b) s = absurd s

-- ---- the opening

pub page_opened : (size q n : ℕ) (h : History) → 0 < size → q < n * size → page_after size q (erased_first n h) ≡ free
page_opened size q zero h some within = absurd (omega arith)
page_opened size q (suc n) h some within =
    elim (ℕ_discrete (q / size) n) [
      | yes same ↦ cond-true (eqb (q / size) n) free (page_after size q (erased_first n h)) (eq-eqb (q / size) n same)
      | no apart ↦ (let o = block_outside size q n apart in let below : q < n * size = omega arith in
          cond-false (eqb (q / size) n) free (page_after size q (erased_first n h)) (ne_eqb (q / size) n apart) ∙ page_opened size q n h some below)
    ]

-- ---- all histories of the store's work

pub sound : {f : Frame} {h : History} {maps : ℕ → Option ℕ} {pages : List Page} → 0 < f.pages_per_block → Worked f h maps pages → Sound f.blocks f.pages_per_block h maps pages
sound {f} some (at_open before shut unmapped) =
    record {
      long = length-replicate (f.blocks * f.pages_per_block) free;
      held = λ q within. get_or-replicate (f.blocks * f.pages_per_block) q free free within ∙ sym (page_opened f.pages_per_block q f.blocks before some within);
      named = unmapped;
      kept = unmapped;
    }
sound {f} some (after_save i n d tries r w) = sound_save f.blocks f.pages_per_block i n d tries (rewritten f.blocks f.pages_per_block (sound some r) w)
sound {f} some (after_copy l q d r named is w) =
    let s = sound some r in sound_copy f.blocks f.pages_per_block l q d s named is (rewritten f.blocks f.pages_per_block s w)
sound {f} some (after_erase b r there emptied) = sound_erase f.blocks f.pages_per_block b some (sound some r) there emptied
sound {f} some (after_call {h = h} e r s) =
    let was = sound some r in
    record {
      long = was.long;
      held = λ q within. was.held q within ∙ sym (still_page f.pages_per_block q h e s);
      named = λ l. was.named l ∙ sym (still_holder l h e s);
      kept = λ n. rw (still_saved n h e s) (was.kept n);
    }
