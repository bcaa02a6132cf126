-- What the store's work and its calls enter says of pages what it should.
use Rattle.std.proofs.Common.{◌≡◌, ℕ, zero, suc, ◌+◌, ◌*◌, ◌<◌, ◌≤◌, Bool, true, false, cond, eqb, List, [], ◌∷◌, length, get_or, Some, None, Option, sym, refl, ap, ◌∙◌, subst, arith}
use Rattle.std.proofs.lemmas.Bool.{eqb-true}
use Rattle.chip.specs.Meaning.{Page, free, written}
use Rattle.ledger.specs.declared.frame.Frame.{Frame}
use Rattle.history.specs.History.{
  Call,
  opening,
  admit,
  notice,
  take,
  hand_back,
  save,
  read,
  tick,
  admitted,
  noticed,
  granted,
  handed_back,
  stored,
  opened,
  did,
  told,
  ticked,
  refused,
  programmed,
  asked,
  erased,
  History,
  count,
  opening_of,
  last_saved,
  dead_in,
}
use Rattle.history.specs.Promise.{Given, Stands, Kept, is_try, is_good, is_asked, is_call, during, Recycled, ShutRefusal, ShutPromise}
use Rattle.history.specs.Work.{Tried, none, again, Written, Emptying, begun, passed, copied, erased_first, Worked}
use Rattle.history.specs.Joined.{RefusalOnPages, AllOnPages}
use Rattle.history.proofs.Counts.{kinds_sum}
use Rattle.history.proofs.Laws.{work_counts, recycle_keeps, emptying_goods, emptying_tries, emptying_asked, given_always}
use Rattle.history.proofs.Sound.{saved_is, none_saved}
use Rattle.history.proofs.Tries.{save_tries}

-- ---- before the opening, and the opening

pub shut_opening : (h : History) → ShutPromise h → opening_of h ≡ None
shut_opening [] shut = refl
shut_opening (opened m y p ∷ h) shut = absurd shut.0
shut_opening (did i d ∷ h) shut = absurd shut.0
shut_opening (told n r d ∷ h) shut = absurd shut.0
shut_opening (ticked a b c d ∷ h) shut = absurd shut.0
shut_opening (refused c why ∷ h) shut = shut_opening h shut.1
shut_opening (programmed q l d g ∷ h) shut = absurd shut.0
shut_opening (asked b ∷ h) shut = absurd shut.0
shut_opening (erased b ∷ h) shut = absurd shut.0

shut_saved : (n : ℕ) (h : History) → ShutPromise h → last_saved n h ≡ None
shut_saved n [] shut = refl
shut_saved n (opened m y p ∷ h) shut = absurd shut.0
shut_saved n (did i d ∷ h) shut = absurd shut.0
shut_saved n (told m r d ∷ h) shut = absurd shut.0
shut_saved n (ticked a b c d ∷ h) shut = absurd shut.0
shut_saved n (refused c why ∷ h) shut = shut_saved n h shut.1
shut_saved n (programmed q l d g ∷ h) shut = absurd shut.0
shut_saved n (asked b ∷ h) shut = absurd shut.0
shut_saved n (erased b ∷ h) shut = absurd shut.0

shut_refused : (f : Frame) (c : Call) (why : ℕ) (h : History) → ShutPromise h → ShutRefusal c why → RefusalOnPages f c why h
shut_refused f (opening m y p) why h shut q = subst (λ o. Given o ((1 < why) × (why < 6)) (λ o. why ≡ 1)) (sym (shut_opening h shut)) q
shut_refused f (admit i p w) why h shut q = tt
shut_refused f (notice i) why h shut q = tt
shut_refused f (take i) why h shut q = tt
shut_refused f (hand_back i) why h shut q = tt
shut_refused f (save i n d) why h shut q = ((λ e. absurd (omega arith)), (λ e. absurd (omega arith)))
shut_refused f (read n room) why h shut q = subst (λ o. Given o (Unit {0}) (λ d. room < length d)) (sym (shut_saved n h shut)) tt
shut_refused f tick why h shut q = shut_opening h shut

pub pages_shut : (f : Frame) (h : History) → ShutPromise h → AllOnPages f h
pages_shut f [] shut = tt
pages_shut f (opened m y p ∷ h) shut = absurd shut.0
pages_shut f (did i d ∷ h) shut = absurd shut.0
pages_shut f (told n r d ∷ h) shut = absurd shut.0
pages_shut f (ticked a b c d ∷ h) shut = absurd shut.0
pages_shut f (refused c why ∷ h) shut = (shut_refused f c why h shut.1 shut.0, pages_shut f h shut.1)
pages_shut f (programmed q l d g ∷ h) shut = absurd shut.0
pages_shut f (asked b ∷ h) shut = absurd shut.0
pages_shut f (erased b ∷ h) shut = absurd shut.0

erases_open_nothing : (n : ℕ) (h : History) → ShutPromise h → opening_of (erased_first n h) ≡ None
erases_open_nothing zero h shut = shut_opening h shut
erases_open_nothing (suc n) h shut = erases_open_nothing n h shut

pages_erased : (f : Frame) (n : ℕ) (h : History) → ShutPromise h → AllOnPages f (erased_first n h)
pages_erased f zero h shut = pages_shut f h shut
pages_erased f (suc n) h shut =
    (subst (λ o. Given o (Unit {0}) (λ o. Recycled f n (erased_first n h))) (sym (erases_open_nothing n h shut)) tt, pages_erased f n h shut)

pub pages_opened : (f : Frame) (h : History) (m y p : ℕ) → ShutPromise h → AllOnPages f (opened m y p ∷ erased_first f.blocks h)
pages_opened f h m y p shut = (erases_open_nothing f.blocks h shut, pages_erased f f.blocks h shut)

-- ---- what the chip and the chooser answer

module _ (f : Frame) {over : ℕ → Bool} {l : ℕ} {d : List ℕ} {h : History} {pages : List Page} {start : ℕ} where
  pub pages_tried : {n : ℕ} {t : History} {left : List Page} {from : ℕ} → Tried over l d h pages start n t left from → AllOnPages f h → AllOnPages f t
  pages_tried none e = e
  pages_tried (again q r at) e = (tt, pages_tried r e)

  pub pages_written : {tries : ℕ} {h' : History} {maps maps' : ℕ → Option ℕ} {pages' : List Page} {start' : ℕ} → Written over l d tries h maps pages start h' maps' pages' start'
      → AllOnPages f h → AllOnPages f h'
  pages_written w e = subst (AllOnPages f) (sym w.answers) (tt, pages_tried w.tried e)

pub pages_emptying : (f : Frame) {size b : ℕ} {h : History} {maps : ℕ → Option ℕ} {pages : List Page} {start i copies : ℕ} {t : History} {now : ℕ → Option ℕ} {left : List Page} {from : ℕ}
    → Emptying size b h maps pages start i copies t now left from → AllOnPages f h → AllOnPages f t
pages_emptying f begun e = e
pages_emptying f (passed r dead) e = pages_emptying f r e
pages_emptying f (copied l d r named is put) e = pages_written f put (pages_emptying f r e)

-- a recycle of a block with enough dead pages
pub pages_recycled : (f : Frame) (b copies : ℕ) (h h' : History) (maps maps' : ℕ → Option ℕ) (pages pages' : List Page) (start start' : ℕ) → 0 < f.pages_per_block → b < f.blocks
    → Worked f h maps pages → Emptying f.pages_per_block b (asked b ∷ h) maps pages start f.pages_per_block copies h' maps' pages' start'
    → f.alpha ≤ dead_in f.pages_per_block b h → AllOnPages f h → AllOnPages f (erased b ∷ h')
pages_recycled f b copies h h' maps maps' pages pages' start start' some there w e enough all =
    let r = recycle_keeps f b copies h h' maps maps' pages pages' start start' some there w e in
    let dead = work_counts f h maps pages some w b there in
    let kinds = kinds_sum maps (λ q. get_or pages q free) (b * f.pages_per_block) f.pages_per_block in
    (given_always (opening_of h') (emptying_asked e, omega (arith, r.1, r.2, dead, kinds, enough)), pages_emptying f e (enough, all))

-- ---- the answers of calls

-- a save that begins right after a call
pub pages_saved : (f : Frame) {over : ℕ → Bool} {tries : ℕ} {h h' : History} {maps maps' : ℕ → Option ℕ} {pages pages' : List Page} {start start' : ℕ} (i n : ℕ) (d : List ℕ) → during h ≡ []
    → n < f.numbers → length d ≤ f.page_size → Written over n d tries h maps pages start h' maps' pages' start' → AllOnPages f h → AllOnPages f (did i (stored n d tries) ∷ h')
pages_saved f i n d settled known fits w all = ((known, fits, sym (save_tries settled w)), pages_written f w all)

-- what a tick has done so far, by the history
pub record Counted (h : History) (recycles copies tries : ℕ) : Type 0 where
  pub asks : recycles ≡ count is_asked (during h)
  pub goods : copies ≡ count is_good (during h)
  pub tries_are : tries ≡ count is_try (during h)

pub counted_none : (h : History) → during h ≡ [] → Counted h 0 0 0
counted_none h settled =
    record { asks = sym (ap (count is_asked) settled); goods = sym (ap (count is_good) settled); tries_are = sym (ap (count is_try) settled) }

tried_asks : {over : ℕ → Bool} {l : ℕ} {d : List ℕ} {h : History} {pages : List Page} {start n : ℕ} {t : History} {left : List Page} {from : ℕ} → Tried over l d h pages start n t left from
    → count is_asked (during t) ≡ count is_asked (during h)
tried_asks none = refl
tried_asks (again q r at) = tried_asks r

emptying_asks : {size b : ℕ} {h : History} {maps : ℕ → Option ℕ} {pages : List Page} {start i copies : ℕ} {t : History} {now : ℕ → Option ℕ} {left : List Page} {from : ℕ}
    → Emptying size b h maps pages start i copies t now left from → count is_asked (during t) ≡ count is_asked (during h)
emptying_asks begun = refl
emptying_asks (passed e dead) = emptying_asks e
emptying_asks (copied l d e named is put) = ap (λ x. count is_asked (during x)) put.answers ∙ tried_asks put.tried ∙ emptying_asks e

-- one more recycle
pub counted_recycle : {size b copies : ℕ} {h h' : History} {maps maps' : ℕ → Option ℕ} {pages pages' : List Page} {start start' : ℕ} (r c t tries : ℕ)
    → Emptying size b (asked b ∷ h) maps pages start size copies h' maps' pages' start' → count is_try h' ≡ count is_try h + tries
    → Counted h r c t → Counted (erased b ∷ h') (r + 1) (c + copies) (t + tries)
counted_recycle {h = h} r c t tries e made k =
    let a = emptying_asks e in
    let g = emptying_goods is_call (λ q l d g. refl) e in
    let y = emptying_tries is_call (λ q l d g. refl) e in
    record { asks = omega (arith, k.asks, a); goods = omega (arith, k.goods, g); tries_are = omega (arith, k.tries_are, y, made) }

pub pages_ticked : (f : Frame) (h : History) (runs recycles copies tries : ℕ) → Counted h recycles copies tries → AllOnPages f h → AllOnPages f (ticked runs recycles copies tries ∷ h)
pages_ticked f h runs recycles copies tries k all = ((k.asks, k.goods, k.tries_are), all)

-- a read, by what the map leads to
pub pages_told : (f : Frame) (h : History) (maps : ℕ → Option ℕ) (pages : List Page) (n room q : ℕ) (d : List ℕ) → Kept h maps pages → n < f.numbers → maps n ≡ Some q → get_or pages q free ≡ written n d
    → length d ≤ room → AllOnPages f h → AllOnPages f (told n room d ∷ h)
pages_told f h maps pages n room q d kept known named is fits all = ((known, saved_is maps pages n q d (last_saved n h) named is (kept n), fits), all)

pub pages_unread : (f : Frame) (h : History) (maps : ℕ → Option ℕ) (pages : List Page) (n room why : ℕ) → Kept h maps pages → maps n ≡ None
    → AllOnPages f h → AllOnPages f (refused (read n room) why ∷ h)
pages_unread f h maps pages n room why kept named all =
    (subst (λ o. Given o (Unit {0}) (λ d. room < length d)) (sym (none_saved maps pages n (last_saved n h) named (kept n))) tt, all)

pub pages_too_long : (f : Frame) (h : History) (maps : ℕ → Option ℕ) (pages : List Page) (n room why q : ℕ) (d : List ℕ) → Kept h maps pages → maps n ≡ Some q → get_or pages q free ≡ written n d
    → room < length d → AllOnPages f h → AllOnPages f (refused (read n room) why ∷ h)
pages_too_long f h maps pages n room why q d kept named is short all =
    (subst (λ o. Given o (Unit {0}) (λ d. room < length d)) (sym (saved_is maps pages n q d (last_saved n h) named is (kept n))) short, all)

-- ---- page numbers in range

abbrev InRange : Frame → ℕ → List ℕ → Type 0
InRange f n b = (n < f.numbers) × (length b ≤ f.page_size)

saved_by : (f : Frame) (n m : ℕ) (d b : List ℕ) (o : Option (List ℕ)) → InRange f m d → (o ≡ Some b → InRange f n b) → (x : Bool) → eqb m n ≡ x → cond x (Some d) o ≡ Some b → InRange f n b
saved_by f n m d b o known rest true q is =
    let same = eqb-true m n q in
    let bytes : d ≡ b = cc in
    let long = ap length bytes in
    (omega (arith, known.0), omega (arith, known.1))
saved_by f n m d b o known rest false q is = rest is

-- nothing was ever saved under any other number, and nothing longer than a page
pub saved_in_range : (f : Frame) (n : ℕ) (b : List ℕ) (h : History) → AllOnPages f h → last_saved n h ≡ Some b → (n < f.numbers) × (length b ≤ f.page_size)
saved_in_range f n b [] all is = let z : ◌≡◌ {A = ℕ} 0 1 = cc in absurd (omega arith)
saved_in_range f n b (opened m y p ∷ h) all is = let z : ◌≡◌ {A = ℕ} 0 1 = cc in absurd (omega arith)
saved_in_range f n b (did i (admitted p w plan) ∷ h) all is = saved_in_range f n b h all.1 is
saved_in_range f n b (did i noticed ∷ h) all is = saved_in_range f n b h all.1 is
saved_in_range f n b (did i granted ∷ h) all is = saved_in_range f n b h all.1 is
saved_in_range f n b (did i handed_back ∷ h) all is = saved_in_range f n b h all.1 is
saved_in_range f n b (did i (stored m d t) ∷ h) all is =
    saved_by f n m d b (last_saved n h) (all.0.0, all.0.1) (saved_in_range f n b h all.1) (eqb m n) refl is
saved_in_range f n b (told m r d ∷ h) all is = saved_in_range f n b h all.1 is
saved_in_range f n b (ticked c d e g ∷ h) all is = saved_in_range f n b h all.1 is
saved_in_range f n b (refused c why ∷ h) all is = saved_in_range f n b h all.1 is
saved_in_range f n b (programmed q l d g ∷ h) all is = saved_in_range f n b h all.1 is
saved_in_range f n b (asked c ∷ h) all is = saved_in_range f n b h all.1 is
saved_in_range f n b (erased c ∷ h) all is = saved_in_range f n b h all.1 is

mapped_saved : (maps : ℕ → Option ℕ) (pages : List Page) (l q : ℕ) (saved : Option (List ℕ)) → maps l ≡ Some q → Stands maps pages l saved → (d : List ℕ) × (saved ≡ Some d)
mapped_saved maps pages l q None named stands = let z : ◌≡◌ {A = ℕ} 0 1 = cc in absurd (omega arith)
mapped_saved maps pages l q (Some d) named stands = (d, refl)

-- so the map names pages for numbers in range alone
pub mapped_in_range : (f : Frame) (h : History) (maps : ℕ → Option ℕ) (pages : List Page) → Kept h maps pages → AllOnPages f h → (l q : ℕ) → maps l ≡ Some q → l < f.numbers
mapped_in_range f h maps pages kept all l q named =
    let s = mapped_saved maps pages l q (last_saved l h) named (kept l) in
    (saved_in_range f l s.0 h all s.1).0

-- and what it leads to fits a page
pub mapped_fits : (f : Frame) (h : History) (maps : ℕ → Option ℕ) (pages : List Page) → Kept h maps pages → AllOnPages f h → (l q : ℕ) (d : List ℕ) → maps l ≡ Some q → get_or pages q free ≡ written l d
    → length d ≤ f.page_size
mapped_fits f h maps pages kept all l q d named is = (saved_in_range f l d h all (saved_is maps pages l q d (last_saved l h) named is (kept l))).1

unsaved_by : (n room : ℕ) (o : Option (List ℕ)) → ((d : List ℕ) → o ≡ Some d → ⊥) → Given o (Unit {0}) (λ d. room < length d)
unsaved_by n room None never = tt
unsaved_by n room (Some d) never = absurd (never d refl)

-- a read of any other is refused
pub pages_not_offered : (f : Frame) (h : History) (n room why : ℕ) → f.numbers ≤ n → AllOnPages f h → AllOnPages f (refused (read n room) why ∷ h)
pages_not_offered f h n room why past all =
    (unsaved_by n room (last_saved n h) (λ d is. let known = (saved_in_range f n d h all is).0 in omega arith), all)
