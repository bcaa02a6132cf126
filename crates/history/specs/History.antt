-- What was asked of a store and what it answered, and what its chip and its chooser answered meanwhile.
-- All of it is counted from arguments and answers, and nothing from a table of the store.
--
-- Call          a call, by its arguments; of a buffer, its length
-- Deed          what an accepted call did to one seat
-- Entry         one line of a history: an accepted call, a refused call with the number of its reason,
--               or an answer of the chip or of the chooser
-- History       the entries so far, the newest first; what the chip and the chooser answer during a call comes before its entry
-- count, any, since    how many entries a test picks, whether it picks one, the entries newer than the newest one that it picks
-- opening_of    the arguments of the accepted opening
-- seat_plan     the plan that the newest admission of a seat answered
-- tenure        the entries since that admission
-- permits_out   permits granted in the tenure, less those handed back, less its stored saves
-- under_notice  a notice was accepted in the tenure
-- elapsed       e: the ticks since the newest start of a meta-period, which is the admission and each σ-th tick after it
-- period        the entries since that start; period_start the history as it stood then
-- charged       the permits out at that start, plus those granted since, less those handed back since
-- runs_made     ⌊e·k/σ⌋
-- emptied       a meta-period has started since the notice
-- runs_of_tick  the runs that a tick makes due, over the eight seats
-- last_saved    what was saved last under a page number since the opening
-- holder        the chip page that took the newest good program of a label since the opening
-- page_after    what a chip page is, by the chip's answers
-- asked_for     the block that the chooser named last
-- dead_in       how many pages of a block are dead, by the chip's answers
use Rattle.std.specs.Prelude.{ℕ, zero, suc, ◌+◌, ◌-◌, ◌*◌, ◌/◌, ◌%◌, Bool, true, false, cond, not, ◌&&◌, ◌||◌, List, [], ◌∷◌, length, drop, Some, None, Option, ◌==◌}
use Rattle.chip.specs.Meaning.{Page, free, spoiled, written}
use Rattle.plan.specs.declared.numbers.Plan.{Plan}
use Rattle.history.specs.Pages.{deads}

pub data Call : Type 0 where
  opening : (numbers alpha pool : ℕ) → Call
  admit : (seat period writes : ℕ) → Call
  notice : (seat : ℕ) → Call
  take : (seat : ℕ) → Call
  hand_back : (seat : ℕ) → Call
  save : (seat number : ℕ) (bytes : List ℕ) → Call
  read : (number room : ℕ) → Call
  tick : Call

pub data Deed : Type 0 where
  admitted : (period writes : ℕ) (plan : Plan) → Deed
  noticed : Deed
  granted : Deed
  handed_back : Deed
  stored : (number : ℕ) (bytes : List ℕ) (tries : ℕ) → Deed

pub data Entry : Type 0 where
  opened : (numbers alpha pool : ℕ) → Entry
  did : (seat : ℕ) → Deed → Entry
  told : (number room : ℕ) (bytes : List ℕ) → Entry
  ticked : (runs recycles copies tries : ℕ) → Entry
  refused : Call → (why : ℕ) → Entry
  programmed : (page label : ℕ) (bytes : List ℕ) (good : Bool) → Entry
  asked : (block : ℕ) → Entry
  erased : (block : ℕ) → Entry

abbrev pub History : Type 0
History = List Entry

-- ---- counting

abbrev pub count : (Entry → Bool) → History → ℕ
count f [] = 0
count f (e ∷ h) = cond (f e) (count f h + 1) (count f h)

abbrev pub any : (Entry → Bool) → History → Bool
any f [] = false
any f (e ∷ h) = f e || any f h

abbrev pub since : (Entry → Bool) → History → History
since f [] = []
since f (e ∷ h) = cond (f e) [] (e ∷ since f h)

-- ---- which entries

abbrev pub is_admitted : Deed → Bool
is_admitted (admitted p w plan) = true
is_admitted noticed = false
is_admitted granted = false
is_admitted handed_back = false
is_admitted (stored n d t) = false

abbrev pub is_noticed : Deed → Bool
is_noticed (admitted p w plan) = false
is_noticed noticed = true
is_noticed granted = false
is_noticed handed_back = false
is_noticed (stored n d t) = false

abbrev pub is_granted : Deed → Bool
is_granted (admitted p w plan) = false
is_granted noticed = false
is_granted granted = true
is_granted handed_back = false
is_granted (stored n d t) = false

abbrev pub is_handed_back : Deed → Bool
is_handed_back (admitted p w plan) = false
is_handed_back noticed = false
is_handed_back granted = false
is_handed_back handed_back = true
is_handed_back (stored n d t) = false

abbrev pub is_stored : Deed → Bool
is_stored (admitted p w plan) = false
is_stored noticed = false
is_stored granted = false
is_stored handed_back = false
is_stored (stored n d t) = true

-- the refusals of a save that hand its permit back: for its page number, and for its length
abbrev pub hands_back : ℕ → Bool
hands_back why = why == 17 || why == 18

abbrev pub gives_up : ℕ → Call → ℕ → Bool
gives_up i (opening m y p) why = false
gives_up i (admit j p w) why = false
gives_up i (notice j) why = false
gives_up i (take j) why = false
gives_up i (hand_back j) why = false
gives_up i (save j n d) why = j == i && hands_back why
gives_up i (read n r) why = false
gives_up i tick why = false

-- the entries about one seat: of its deeds those that f picks, and of the refusals those that r picks
abbrev pub of_seat : ℕ → (Deed → Bool) → (Call → ℕ → Bool) → Entry → Bool
of_seat i f r (opened m y p) = false
of_seat i f r (did j d) = j == i && f d
of_seat i f r (told n m d) = false
of_seat i f r (ticked a b c d) = false
of_seat i f r (refused c why) = r c why
of_seat i f r (programmed q l d g) = false
of_seat i f r (asked b) = false
of_seat i f r (erased b) = false

abbrev pub never : Call → ℕ → Bool
never c why = false

abbrev pub admission : ℕ → Entry → Bool
admission i = of_seat i is_admitted never

abbrev pub notice_of : ℕ → Entry → Bool
notice_of i = of_seat i is_noticed never

abbrev pub grant : ℕ → Entry → Bool
grant i = of_seat i is_granted never

-- a permit is handed back by a hand back, and by a save that is refused for what it brings
abbrev pub return_of : ℕ → Entry → Bool
return_of i = of_seat i is_handed_back (gives_up i)

abbrev pub storing : ℕ → Entry → Bool
storing i = of_seat i is_stored never

abbrev pub tick_of : Entry → Bool
tick_of (opened m y p) = false
tick_of (did j d) = false
tick_of (told n m d) = false
tick_of (ticked a b c d) = true
tick_of (refused c why) = false
tick_of (programmed q l d g) = false
tick_of (asked b) = false
tick_of (erased b) = false

-- ---- the opening

abbrev pub opening_of : History → Option (ℕ × ℕ × ℕ)
opening_of [] = None
opening_of (opened m y p ∷ h) = Some (m, y, p)
opening_of (did j d ∷ h) = opening_of h
opening_of (told n m d ∷ h) = opening_of h
opening_of (ticked a b c d ∷ h) = opening_of h
opening_of (refused c why ∷ h) = opening_of h
opening_of (programmed q l d g ∷ h) = opening_of h
opening_of (asked b ∷ h) = opening_of h
opening_of (erased b ∷ h) = opening_of h

-- ---- a seat, by its history

abbrev pub deed_plan : Deed → Option Plan
deed_plan (admitted p w plan) = Some plan
deed_plan noticed = None
deed_plan granted = None
deed_plan handed_back = None
deed_plan (stored n d t) = None

abbrev pub or_else : {X : Type 0} → Option X → Option X → Option X
or_else (Some x) y = Some x
or_else None y = y

abbrev pub seat_plan : ℕ → History → Option Plan
seat_plan i [] = None
seat_plan i (opened m y p ∷ h) = seat_plan i h
seat_plan i (did j d ∷ h) = cond (j == i) (or_else (deed_plan d) (seat_plan i h)) (seat_plan i h)
seat_plan i (told n m d ∷ h) = seat_plan i h
seat_plan i (ticked a b c d ∷ h) = seat_plan i h
seat_plan i (refused c why ∷ h) = seat_plan i h
seat_plan i (programmed q l d g ∷ h) = seat_plan i h
seat_plan i (asked b ∷ h) = seat_plan i h
seat_plan i (erased b ∷ h) = seat_plan i h

-- the newest entries that hold n ticks, up to the tick before them
abbrev pub recent : ℕ → History → History
recent n [] = []
recent n (e ∷ h) = cond (tick_of e) (cond (n == 0) [] (e ∷ recent (n - 1) h)) (e ∷ recent n h)

module _ (i : ℕ) where
  abbrev pub tenure : History → History
  tenure h = since (admission i) h

  abbrev pub permits_out : History → ℕ
  permits_out h = count (grant i) (tenure h) - count (return_of i) (tenure h) - count (storing i) (tenure h)

  abbrev pub under_notice : History → Bool
  under_notice h = any (notice_of i) (tenure h)

module _ (i : ℕ) (t : Plan) where
  abbrev pub elapsed : History → ℕ
  elapsed h = count tick_of (tenure i h) % t.meta_period

  abbrev pub period : History → History
  period h = recent (elapsed h) (tenure i h)

  abbrev pub period_start : History → History
  period_start h = drop (length (period h)) h

  abbrev pub charged : History → ℕ
  charged h = permits_out i (period_start h) + count (grant i) (period h) - count (return_of i) (period h)

  abbrev pub runs_made : History → ℕ
  runs_made h = elapsed h * t.runs / t.meta_period

  abbrev pub emptied : History → Bool
  emptied h = under_notice i h && not (any (notice_of i) (period h))

-- ---- the runs of a tick

-- for a seat in use: those due with this tick, less those made before it
abbrev pub runs_by_plan : ℕ → History → Option Plan → ℕ
runs_by_plan i h None = 0
runs_by_plan i h (Some t) = cond (emptied i t h) 0 ((elapsed i t h + 1) * t.runs / t.meta_period - runs_made i t h)

abbrev pub sum_first : ℕ → (ℕ → ℕ) → ℕ
sum_first zero f = 0
sum_first (suc n) f = sum_first n f + f n

abbrev pub runs_of_tick : History → ℕ
runs_of_tick h = sum_first 8 (λ i. runs_by_plan i h (seat_plan i h))

-- ---- a page number, by its history

abbrev pub last_saved : ℕ → History → Option (List ℕ)
last_saved n [] = None
last_saved n (opened m y p ∷ h) = None
last_saved n (did j (admitted p w plan) ∷ h) = last_saved n h
last_saved n (did j noticed ∷ h) = last_saved n h
last_saved n (did j granted ∷ h) = last_saved n h
last_saved n (did j handed_back ∷ h) = last_saved n h
last_saved n (did j (stored m d t) ∷ h) = cond (m == n) (Some d) (last_saved n h)
last_saved n (told m r d ∷ h) = last_saved n h
last_saved n (ticked a b c d ∷ h) = last_saved n h
last_saved n (refused c why ∷ h) = last_saved n h
last_saved n (programmed q l d g ∷ h) = last_saved n h
last_saved n (asked b ∷ h) = last_saved n h
last_saved n (erased b ∷ h) = last_saved n h

-- ---- the chip, by its answers

abbrev pub holder : ℕ → History → Option ℕ
holder l [] = None
holder l (opened m y p ∷ h) = None
holder l (did j d ∷ h) = holder l h
holder l (told m r d ∷ h) = holder l h
holder l (ticked a b c d ∷ h) = holder l h
holder l (refused c why ∷ h) = holder l h
holder l (programmed q m d g ∷ h) = cond (g && m == l) (Some q) (holder l h)
holder l (asked b ∷ h) = holder l h
holder l (erased b ∷ h) = holder l h

abbrev pub programmed_as : ℕ → List ℕ → Bool → Page
programmed_as l d true = written l d
programmed_as l d false = spoiled

-- with so many pages to a block
abbrev pub page_after : ℕ → ℕ → History → Page
page_after per_block q [] = free
page_after per_block q (opened m y p ∷ h) = page_after per_block q h
page_after per_block q (did j d ∷ h) = page_after per_block q h
page_after per_block q (told m r d ∷ h) = page_after per_block q h
page_after per_block q (ticked a b c d ∷ h) = page_after per_block q h
page_after per_block q (refused c why ∷ h) = page_after per_block q h
page_after per_block q (programmed r l d g ∷ h) = cond (r == q) (programmed_as l d g) (page_after per_block q h)
page_after per_block q (asked b ∷ h) = page_after per_block q h
page_after per_block q (erased b ∷ h) = cond (q / per_block == b) free (page_after per_block q h)

-- dead is here: neither free nor the page of its label's newest good program
abbrev pub dead_in : ℕ → ℕ → History → ℕ
dead_in per_block b h = deads (λ l. holder l h) (λ q. page_after per_block q h) (b * per_block) per_block

abbrev pub asked_for : History → Option ℕ
asked_for [] = None
asked_for (opened m y p ∷ h) = asked_for h
asked_for (did j d ∷ h) = asked_for h
asked_for (told m r d ∷ h) = asked_for h
asked_for (ticked a b c d ∷ h) = asked_for h
asked_for (refused c why ∷ h) = asked_for h
asked_for (programmed q l d g ∷ h) = asked_for h
asked_for (asked b ∷ h) = Some b
asked_for (erased b ∷ h) = asked_for h
