-- An opening, over plain values. Assumes nothing.
use Rattle.pages.specs.declared.geometry.Geometry.{Geometry}
use Rattle.std.proofs.lemmas.Grind.{common_steps}
use Rattle.std.proofs.Common.{◌≡◌, ℕ, ◌+◌, ◌*◌, ◌<◌, ◌≤◌, Bool, true, false, cond, length, get_or, replicate, Some, None, Ok, Err, Option, Result, sym, refl, ap, ◌∙◌, subst, inl, inr, mul-le-mul, arith, rules}
use lib.ListN.{length-replicate, get_or-replicate}
use Rattle.std.specs.Option.{option_map}
use Rattle.chip.specs.Meaning.{free, Meaning, Shaped}
use Rattle.chip.specs.declared.words.Shape.{Shape}
use Rattle.chip.specs.Calls.{shape_of}
use Rattle.plan.specs.Yield.{yield_rule}
use Rattle.ledger.specs.declared.frame.Frame.{Frame}
use Rattle.ledger.specs.declared.ledger.Ledger.{Ledger}
use Rattle.ledger.specs.declared.refusal.Refusal.{Refusal}
use Rattle.ledger.specs.Books.{Books, answer}
use Rattle.ledger.specs.Fair.{stands, opened as opened_books}
use Rattle.ledger.specs.Of.{books_of}
use Rattle.ledger.specs.Settled.{Settled}
use Rattle.ledger.proofs.Settles.{opened_settled}
use Rattle.history.specs.Pages.{is_dead}
use Rattle.history.proofs.Tally.{tally_none, tally_all}
use Rattle.history.proofs.Chip.{all_free as all_are_free}
use Rattle.pages.specs.declared.tables.Tables.{Tables}
use Rattle.pages.specs.Tied.{maps_of, page_in, Tied}
use Rattle.pages.specs.Recycle.{all_free}
use Rattle.store.specs.State.{Standing}
use Rattle.store.specs.State.{frame_for, SoundAt}
use Rattle.store.specs.Effects.{asks_frame, asks_open, blank, FreshTables, Opens}
use Rattle.store.proofs.Booking.{open_sound}

-- ---- every block is erased

pub shaped_long : (m : Meaning) → Shaped m → length m.pages ≡ m.blocks * m.per_block
shaped_long m (inl empty) = search rules
shaped_long m (inr range) = range.all_pages

-- the first blocks are erased
pub record ErasedTo (m n : Meaning) (b : ℕ) : Type 0 where
  pub blocks : n.blocks ≡ m.blocks
  pub per_block : n.per_block ≡ m.per_block
  pub page_size : n.page_size ≡ m.page_size
  pub allowance : n.allowance ≡ m.allowance
  pub long : length n.pages ≡ length m.pages
  pub below : (k : ℕ) → k < b * n.per_block → page_in n.pages k ≡ free

pub erased_all : (m n : Meaning) → Shaped m → ErasedTo m n m.blocks → n ≡ blank m
erased_all m n shaped e =
    let pages : n.pages ≡ replicate (m.blocks * m.per_block) free =
    all_are_free (m.blocks * m.per_block) n.pages (e.long ∙ shaped_long m shaped) (λ k within. e.below k (subst (λ x. k < m.blocks * x) (sym e.per_block) within)) in
    λ i. record { blocks = e.blocks i; per_block = e.per_block i; page_size = e.page_size i; allowance = e.allowance i; pages = pages i }

-- ---- what the questions say

pub record Openable (is_open : Bool) (f : Frame) : Type 0 where
  pub shut : is_open ≡ false
  pub some_blocks : 2 ≤ f.blocks
  pub few_blocks : f.blocks ≤ 64
  pub few_numbers : f.numbers ≤ 1920
  pub yields : 1 ≤ f.alpha
  pub yields_within : f.alpha ≤ f.pages_per_block
  pub rule : yield_rule f.blocks f.pages_per_block f.numbers (f.pool + f.allowance) f.alpha ≡ true

openable : (is_open : Bool) (f : Frame) → asks_frame is_open f ≡ None → Openable is_open f
openable is_open f none = search rules

-- the sizes that the tables take
geometry_sized : (is_open : Bool) (m : Meaning) (shape : Shape) (numbers alpha pool : ℕ) → shape ≡ shape_of m → Shaped m → Openable is_open (frame_for m numbers alpha pool)
    → (1 ≤ shape.blocks) × (shape.blocks ≤ 64) × (1 ≤ shape.pages_per_block) × (shape.pages_per_block ≤ 32)
geometry_sized is_open m shape numbers alpha pool is shaped o = search rules

-- ---- the tables of a blank chip

none_named : (n l : ℕ) → get_or {A = Option ℕ} (replicate n None) l None ≡ None
none_named n l = grind (arith, common_steps)

all_free_page : (n q : ℕ) → get_or (replicate n free) q free ≡ free
all_free_page n q = grind (arith, common_steps)

module _ (m : Meaning) (t : Tables) (fresh : FreshTables m t) where
  no_map : (l q : ℕ) → maps_of t l ≡ Some q → ⊥
  no_map l q named =
      let e : ◌≡◌ {A = Option ℕ} None (Some q) = sym (ap (λ x. get_or x l None) fresh.map ∙ none_named 1920 l) ∙ named in
      let z : ◌≡◌ {A = ℕ} 0 1 = cc in
      omega arith

  pub blank_free : all_free (blank m) ≡ m.blocks * m.per_block
  blank_free = grind (arith, common_steps, tally_all)

  fresh_tied : Tied m.page_size (blank m).pages t
  fresh_tied =
      let n = m.blocks * m.per_block in
      let whole : n ≡ t.geometry.blocks * t.geometry.pages_per_block =
      ap (λ x. x * m.per_block) (sym fresh.blocks) ∙ ap (λ x. t.geometry.blocks * x) (sym fresh.per_block) in
      let some : 1 * 1 ≤ t.geometry.blocks * t.geometry.pages_per_block = mul-le-mul t.geometry.sized.0 t.geometry.sized.2 in
      record {
        sized = record { long = length-replicate n free ∙ whole; starts = omega (arith, some, fresh.start) };
        numbers = ap length fresh.map ∙ length-replicate {A = Option ℕ} 1920 None;
        counters = ap length fresh.dead ∙ length-replicate {A = ℕ} 64 0;
        labelled = λ l q named. absurd (no_map l q named);
        free_pages = fresh.free_pages ∙ sym blank_free;
        dead_pages = λ b there.
            ap (λ x. get_or x b 0) fresh.dead ∙ get_or-replicate 64 b 0 0 (omega (arith, there, t.geometry.sized.1))
            ∙ sym (tally_none (λ q. is_dead (maps_of t) q (page_in (replicate n free) q)) (b * t.geometry.pages_per_block) t.geometry.pages_per_block (λ k low high. ap (is_dead (maps_of t) k) (all_free_page n k)));
      }

  module _ (is_open : Bool) (numbers alpha pool : ℕ) (o : Openable is_open (frame_for m numbers alpha pool)) where
    -- the yield rule leaves a free page for every token
    enough : pool + m.allowance ≤ m.blocks * m.per_block
    enough = search rules

    pub fresh_sound : SoundAt (blank m) (opened_books (frame_for m numbers alpha pool)) t
    fresh_sound =
        record {
          tied = fresh_tied;
          shape = record { blocks = sym fresh.blocks; pages = sym fresh.per_block };
          blocks = refl;
          per_block = refl;
          page_size = refl;
          numbers = o.few_numbers;
          labels = λ l q named. absurd (no_map l q named);
          spare = omega arith;
          room = omega (arith, enough, blank_free);
        }

-- tables that were made for a chip of this shape
pub fresh_tables : (m : Meaning) (x : Shape) (g : Geometry) (t : Tables) → x ≡ shape_of m → g.blocks ≡ x.blocks → g.pages_per_block ≡ x.pages_per_block
    → t.map ≡ replicate 1920 None → t.dead ≡ replicate 64 0 → t.free ≡ g.blocks * g.pages_per_block → t.start ≡ 0 → t.geometry ≡ g → FreshTables m t
fresh_tables m x g t is blocks per_block map dead unused start geometry =
    let b : g.blocks ≡ m.blocks = blocks ∙ ap (λ (s : Shape). s.blocks) is in
    let p : g.pages_per_block ≡ m.per_block = per_block ∙ ap (λ (s : Shape). s.pages_per_block) is in
    record {
      map = map;
      dead = dead;
      free_pages = unused ∙ ap (λ y. y * g.pages_per_block) b ∙ ap (λ y. m.blocks * y) p;
      start = start;
      blocks = ap (λ (y : Geometry). y.blocks) geometry ∙ b;
      per_block = ap (λ (y : Geometry). y.pages_per_block) geometry ∙ p;
    }

-- ---- the whole

module _ {C H : Type 0} {means : C → Meaning} (s : Standing means H) (numbers alpha pool : ℕ) (none : asks_open s.is_open s.chip numbers alpha pool ≡ None) where
  opens_on : (t : Standing means H) → t.chip ≡ blank s.chip → t.chooser ≡ s.chooser → t.is_open ≡ true
      → books_of t.ledger ≡ opened_books (frame_for s.chip numbers alpha pool) → FreshTables s.chip t.tables → Opens s numbers alpha pool (Ok tt) t
  opens_on t chip chooser is books fresh =
      let m = s.chip in
      let f = frame_for m numbers alpha pool in
      let o = openable s.is_open f none in
      let at : SoundAt t.chip (books_of t.ledger) t.tables =
      subst (λ (x : Meaning). SoundAt x (books_of t.ledger) t.tables) (sym chip)
      (subst (λ (x : Books). SoundAt (blank m) x t.tables) (sym books) (fresh_sound m t.tables fresh s.is_open numbers alpha pool o)) in (
        none,
        record { chip = chip; chooser = chooser; is_open = is; books = books; tables = fresh },
        open_sound t is (record { at = at; settled = subst Settled (sym books) (opened_settled f) }),
      )

module _ {C H : Type 0} {means : C → Meaning} (s : Standing means H) (numbers alpha pool : ℕ) (f : Frame) (is : f ≡ frame_for s.chip numbers alpha pool) where
  asked_open : (x : Unit {0}) → ◌≡◌ {A = Result (Unit {0}) Refusal} (Ok x) (answer (asks_frame s.is_open f) tt) → asks_open s.is_open s.chip numbers alpha pool ≡ None
  asked_open x told = search rules

  pub not_opened : (t : Standing means H) (e : Refusal) → ◌≡◌ {A = Result (Unit {0}) Refusal} (Err e) (answer (asks_frame s.is_open f) tt) → t.chip ≡ s.chip → t.chooser ≡ s.chooser
      → t.is_open ≡ s.is_open → t.ledger ≡ s.ledger → t.tables ≡ s.tables → Opens s numbers alpha pool (Err e) t
  not_opened t e told chip chooser is_open ledger tables = search rules

  module _ (shaped : Shaped s.chip) (x : Unit {0}) (told : ◌≡◌ {A = Result (Unit {0}) Refusal} (Ok x) (answer (asks_frame s.is_open f) tt)) where
    pub may : Openable s.is_open (frame_for s.chip numbers alpha pool)
    may = search rules

    pub frame_refused : option_map books_of None ≡ cond (stands f) (Some (opened_books f)) None → ⊥
    frame_refused said = search rules

    pub frame_opened : (l : Ledger) → option_map books_of (Some l) ≡ cond (stands f) (Some (opened_books f)) None → books_of l ≡ opened_books (frame_for s.chip numbers alpha pool)
    frame_opened l said = search rules

    -- a store with these parts was opened
    pub opened_with : (t : Standing means H) (l : Ledger) → option_map books_of (Some l) ≡ cond (stands f) (Some (opened_books f)) None
        → t.chip ≡ blank s.chip → t.chooser ≡ s.chooser → t.is_open ≡ true → t.ledger ≡ l → FreshTables s.chip t.tables → Opens s numbers alpha pool (Ok tt) t
    opened_with t l said chip chooser is_open ledger fresh =
        opens_on s numbers alpha pool (asked_open x told) t chip chooser is_open (ap books_of ledger ∙ frame_opened l said) fresh

    pub opened_sized : (shape : Shape) → shape ≡ shape_of s.chip → (1 ≤ shape.blocks) × (shape.blocks ≤ 64) × (1 ≤ shape.pages_per_block) × (shape.pages_per_block ≤ 32)
    opened_sized shape so = geometry_sized s.is_open s.chip shape numbers alpha pool so shaped may
