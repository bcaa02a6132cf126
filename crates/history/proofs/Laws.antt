-- The theorems on pages, map and history.
use Rattle.std.proofs.Common.{◌≡◌, ℕ, ◌+◌, ◌-◌, ◌*◌, ◌/◌, ◌<◌, ◌≤◌, Bool, false, eqb, List, ◌∷◌, length, get_or, Some, None, Option, sym, refl, ap, ◌∙◌, subst, add-mul, add-one, arith}
use Rattle.std.proofs.lemmas.Bool.{cond-true, eq-eqb, eqb-false}
use Rattle.chip.specs.Meaning.{Page, free, spoiled, written}
use Rattle.chip.specs.Calls.{is_free}
use Rattle.plan.specs.Yield.{YieldRule}
use Rattle.ledger.specs.declared.frame.Frame.{Frame}
use Rattle.history.specs.Pages.{frees, lives, deads}
use Rattle.history.specs.History.{Entry, programmed, History, asked, count, since, opening_of, asked_for, page_after}
use Rattle.history.specs.Promise.{Given, Every, Stands, is_try, is_good, is_asked, during}
use Rattle.history.specs.Work.{Tried, none, again, Written, Worked, after_copy, after_erase, after_call, in_block, Emptying, begun, passed, copied}
use Rattle.history.specs.Laws.{WorkKeeps, WorkCounts, LiveEraseBreaks, ChoiceYields, WriteCosts, RecycleKeeps, RecycleRight}
use Rattle.history.proofs.Counts.{kinds_sum, lives_le, deads_sum, frees_set}
use Rattle.history.proofs.Tally.{tally_same}
use Rattle.history.proofs.Tries.{written_tries, written_goods, written_adds}
use Rattle.history.proofs.Room.{many_dead, enough_dead}
use Rattle.history.proofs.Chip.{dead_in_step, block_fits, block_outside, block_from, frees_wiped}
use Rattle.history.proofs.Recycle.{Copying, copying_none, copying_pass, copying_copy, copying_all, written_outside}
use Rattle.history.proofs.Sound.{sound, tried_length}

pub work_keeps : WorkKeeps
work_keeps f h maps pages some w = let s = sound some w in (s.kept, s.named, s.held)

pub work_long : {f : Frame} {h : History} {maps : ℕ → Option ℕ} {pages : List Page} → 0 < f.pages_per_block → Worked f h maps pages → length pages ≡ f.blocks * f.pages_per_block
work_long some w = (sound some w).long

pub work_counts : WorkCounts
work_counts f h maps pages some w b there =
    let s = sound some w in
    dead_in_step f.pages_per_block (f.blocks * f.pages_per_block) b h maps pages s.held s.named (block_fits f.pages_per_block b f.blocks there)

-- what stands under a number that the map names a free page for
free_stands : (maps : ℕ → Option ℕ) (pages : List Page) (n q : ℕ) (d : List ℕ) → maps n ≡ Some q → get_or pages q free ≡ free → Stands maps pages n (Some d) → ⊥
free_stands maps pages n q d named gone stands =
    let a = stands.1 in
    let s : stands.0 ≡ q = cc in
    let f : get_or pages q free ≡ written n d = ap (λ k. get_or pages k free) (sym s) ∙ stands.2 in
    let z : ◌≡◌ {A = ℕ} 0 1 = cc (gone, f) in
    omega arith

pub live_erase_breaks : LiveEraseBreaks
live_erase_breaks blocks size b n q d h maps pages saved held_by there inside kept named held =
    free_stands maps pages n q d (named n ∙ held_by)
    (held q there ∙ cond-true (eqb (q / size) b) free (page_after size q h) (eq-eqb (q / size) b inside))
    (rw saved at (kept n))

-- the yield rule with its subtractions where the rule has them
rule_apart : (blocks size numbers high α : ℕ) → 1 ≤ α → YieldRule blocks size numbers high α → numbers + high + (α - 1) + (α - 1) * blocks < blocks * size
rule_apart blocks size numbers high α some rule =
    let whole : α - 1 + 1 ≡ α = omega arith in
    let parts = ap (λ x. x * blocks) (sym whole) ∙ add-mul (α - 1) 1 blocks in
    omega arith

pub choice_yields : ChoiceYields
choice_yields f high tokens h maps pages counts b some won w labels rule few cap long each fair =
    let N = f.blocks in
    let π = f.pages_per_block in
    let page : ℕ → Page = λ q. get_or pages q free in
    let there : b < N = omega (arith, fair.there) in
    let whole = kinds_sum maps page 0 (N * π) in
    let part = kinds_sum maps page (b * π) π in
    let live = lives_le maps page (N * π) f.numbers labels in
    let total = deads_sum maps page counts π N long each in
    let c = each b there in
    let many = many_dead N π f.numbers f.alpha high (frees page 0 (N * π)) (lives maps page 0 (N * π)) (deads maps page 0 (N * π)) tokens
    (rule_apart N π f.numbers high f.alpha won rule) whole live few cap in
    let worth = subst (λ x. get_or counts b 0 * length counts ≡ get_or counts b 0 * x) long refl in
    let enough = enough_dead N f.alpha (deads maps page 0 (N * π)) (get_or counts b 0) many (omega (arith, total, fair.worth, worth)) in
    let same = work_counts f h maps pages some w b there in
    (omega (arith, enough, c, same), omega (arith, part, enough, c))

-- a try takes a page
module _ {over : ℕ → Bool} {l : ℕ} {d : List ℕ} {h : History} {pages : List Page} {start : ℕ} where
  pub tried_frees : {k : ℕ} {t : History} {left : List Page} {from : ℕ} (n : ℕ) → length pages ≡ n → Tried over l d h pages start k t left from
      → frees (λ q. get_or left q free) 0 n + k ≡ frees (λ q. get_or pages q free) 0 n
  tried_frees n long none = omega arith
  tried_frees n long (again {left = left} q r at) =
      let e = tried_frees n long r in
      let m = tried_length r in
      let there = at.there in
      let f = frees_set left q 0 n spoiled there at.room refl (omega arith) (omega arith) in
      omega arith

pub write_costs : WriteCosts
write_costs over l d h h' maps maps' pages pages' start start' tries n w long =
    let e = tried_frees n long w.tried in
    let m = tried_length w.tried in
    let there = w.placed.there in
    let f = frees_set w.left w.place 0 n (written l d) there w.placed.room refl (omega arith) (omega arith) in
    let g = ap (λ x. frees (λ i. get_or x i free) 0 n) w.put in
    omega (arith, e, f, g, w.made)

-- ---- a recycle

tried_asked : {over : ℕ → Bool} {l : ℕ} {d : List ℕ} {h : History} {pages : List Page} {start n : ℕ} {t : History} {left : List Page} {from : ℕ} → Tried over l d h pages start n t left from
    → asked_for (during t) ≡ asked_for (during h)
tried_asked none = refl
tried_asked (again q r at) = tried_asked r

module _ {b : ℕ} {h : History} {maps : ℕ → Option ℕ} {pages : List Page} {start : ℕ} where
  pub emptying_worked : {f : Frame} {i copies : ℕ} {t : History} {now : ℕ → Option ℕ} {left : List Page} {from : ℕ}
      → Worked f h maps pages → Emptying f.pages_per_block b h maps pages start i copies t now left from → Worked f t now left
  emptying_worked w begun = w
  emptying_worked w (passed e dead) = emptying_worked w e
  emptying_worked {f = f} {i = i} w (copied {i = j} l d e named is put) = after_copy l (b * f.pages_per_block + j) d (emptying_worked w e) named is put

  emptying_frees : {f : Frame} {i copies : ℕ} {t : History} {now : ℕ → Option ℕ} {left : List Page} {from : ℕ}
      → 0 < f.pages_per_block → Worked f h maps pages → Emptying f.pages_per_block b h maps pages start i copies t now left from
      → frees (λ q. get_or left q free) 0 (f.blocks * f.pages_per_block) + count is_try (since is_asked t)
      ≡ frees (λ q. get_or pages q free) 0 (f.blocks * f.pages_per_block) + count is_try (since is_asked h)
  emptying_frees some w begun = refl
  emptying_frees some w (passed e dead) = emptying_frees some w e
  emptying_frees {f} some w (copied {t = t} {u = u} {now = now} {next = next} {left = left} {new = new} {from = from} {onward = onward} {tries = tries} l d e named is put) =
      let g = emptying_frees some w e in
      let p = written_tries is_asked (λ q l d g. refl) put in
      let long = (sound some (emptying_worked w e)).long in
      let c = write_costs (in_block f.pages_per_block b) l d t u now next left new from onward tries (f.blocks * f.pages_per_block) put long in
      omega (arith, g, p, c)

module _ {size b : ℕ} {h : History} {maps : ℕ → Option ℕ} {pages : List Page} {start : ℕ} where
  pub emptying_copying : {i copies : ℕ} {t : History} {now : ℕ → Option ℕ} {left : List Page} {from : ℕ} → 0 < size → i ≤ size → Emptying size b h maps pages start i copies t now left from
      → Copying (b * size) size maps (λ q. get_or pages q free) i copies now (λ q. get_or left q free)
  emptying_copying some fits begun = copying_none (b * size) size maps (λ q. get_or pages q free)
  emptying_copying some fits (passed {i = j} {copies = c} {now = now} {left = left} e dead) =
      rw (← add-one j) (copying_pass (b * size) size maps (λ q. get_or pages q free) j c now (λ q. get_or left q free) fits (emptying_copying some (omega arith) e) dead)
  emptying_copying some fits (copied {i = j} {copies = c} {now = now} {next = next} {left = left} {new = new} l d e named is put) =
      rw (← add-one j, ← add-one c)
      (copying_copy (b * size) size maps (λ q. get_or pages q free) j c now (λ q. get_or left q free) fits (emptying_copying some (omega arith) e)
      l put.place d next (λ q. get_or new q free) is named put.mapped put.others
      (block_outside size put.place b (eqb-false (put.place / size) b put.placed.allowed))
      (λ k low high. written_outside k (eq-eqb (k / size) b (block_from size k b low high)) put))

  module _ (mark : Entry → Bool) (no_program : (q l : ℕ) (d : List ℕ) (g : Bool) → mark (programmed q l d g) ≡ false) where
    -- since an entry that `mark` picks, which is no program, every copy is one good program
    pub emptying_goods : {i copies : ℕ} {t : History} {now : ℕ → Option ℕ} {left : List Page} {from : ℕ} → Emptying size b h maps pages start i copies t now left from
        → count is_good (since mark t) ≡ count is_good (since mark h) + copies
    emptying_goods begun = omega arith
    emptying_goods (passed e dead) = emptying_goods e
    emptying_goods (copied l d e named is put) = let g = emptying_goods e in let p = written_goods mark no_program put in omega arith

    -- and its tries are the same, whatever entry they are counted from
    pub emptying_tries : {i copies : ℕ} {t : History} {now : ℕ → Option ℕ} {left : List Page} {from : ℕ} → Emptying size b h maps pages start i copies t now left from
        → count is_try (since mark t) + count is_try h ≡ count is_try (since mark h) + count is_try t
    emptying_tries begun = refl
    emptying_tries (passed e dead) = emptying_tries e
    emptying_tries (copied l d e named is put) =
        let g = emptying_tries e in
        let p = written_tries mark no_program put in
        let o = written_adds put in
        omega arith

-- the block is the one that was asked for
module _ {size b : ℕ} {h : History} {maps : ℕ → Option ℕ} {pages : List Page} {start : ℕ} where
  pub emptying_asked : {i copies : ℕ} {t : History} {now : ℕ → Option ℕ} {left : List Page} {from : ℕ} → Emptying size b (asked b ∷ h) maps pages start i copies t now left from
      → asked_for (during t) ≡ Some b
  emptying_asked begun = refl
  emptying_asked (passed e dead) = emptying_asked e
  emptying_asked (copied l d e named is put) = ap (λ x. asked_for (during x)) put.answers ∙ tried_asked put.tried ∙ emptying_asked e

pub given_always : {X : Type 0} {Q : Type 0} (o : Option X) → Q → Given o (Unit {0}) (λ x. Q)
given_always None q = tt
given_always (Some x) q = q

pub recycle_keeps : RecycleKeeps
recycle_keeps f b copies h h' maps maps' pages pages' start start' some there w e =
    let size = f.pages_per_block in
    let begin = after_call (asked b) w tt in
    let end = emptying_worked begin e in
    let s = sound some end in
    let c = emptying_copying some (omega arith) e in
    let all = copying_all size b copies maps maps' (λ q. get_or pages q free) h' pages' some c s.kept in
    let fits = block_fits size b f.blocks there in
    let g = emptying_goods is_asked (λ q l d g. refl) e in
    let v = emptying_frees some begin e in
    let x = frees_wiped size b (f.blocks * size) pages' (omega (arith, fits, s.long)) fits in
    let y = tally_same (λ q. is_free (get_or pages' q free)) (λ q. is_free (get_or pages q free)) (b * size) size (λ k low high. ap is_free (c.same k low high)) in
    (after_erase b end there all.0, all.1, omega (arith, g), omega (arith, v, x, y))

-- ---- and what it enters

module _ (f : Frame) {over : ℕ → Bool} {l : ℕ} {d : List ℕ} {h : History} {pages : List Page} {start : ℕ} where
  pub every_tried : {n : ℕ} {t : History} {left : List Page} {from : ℕ} → Tried over l d h pages start n t left from → Every f h → Every f t
  every_tried none e = e
  every_tried (again q r at) e = (tt, every_tried r e)

  pub every_written : {tries : ℕ} {h' : History} {maps maps' : ℕ → Option ℕ} {pages' : List Page} {start' : ℕ} → Written over l d tries h maps pages start h' maps' pages' start' → Every f h → Every f h'
  every_written w e = subst (Every f) (sym w.answers) (tt, every_tried w.tried e)

every_emptying : (f : Frame) {size b : ℕ} {h : History} {maps : ℕ → Option ℕ} {pages : List Page} {start i copies : ℕ} {t : History} {now : ℕ → Option ℕ} {left : List Page} {from : ℕ}
    → Emptying size b h maps pages start i copies t now left from → Every f h → Every f t
every_emptying f begun e = e
every_emptying f (passed r dead) e = every_emptying f r e
every_emptying f (copied l d r named is put) e = every_written f put (every_emptying f r e)

pub recycle_right : RecycleRight
recycle_right f b copies h h' maps maps' pages pages' start start' some there w e enough every =
    let r = recycle_keeps f b copies h h' maps maps' pages pages' start start' some there w e in
    let dead = work_counts f h maps pages some w b there in
    let kinds = kinds_sum maps (λ q. get_or pages q free) (b * f.pages_per_block) f.pages_per_block in
    (given_always (opening_of h') (emptying_asked e, omega (arith, r.1, r.2, dead, kinds, enough)), every_emptying f e (enough, every))
