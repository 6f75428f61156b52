-- Lines one after another: what is printed so far, and what the rest will print.
use Prim.Native.Nat.{ℕ, suc, ◌+◌, ◌-◌, ◌*◌, ◌≤◌, ◌<◌}
use mathlib.Core.Path.{◌≡◌, refl, sym, ap, ◌∙◌}
use mathlib.Core.Bool.{Bool, true, false, cond}
use mathlib.Core.List.{List, [], ◌∷◌, ◌++◌, append_assoc, append-nil}
use lib.Dec.{eqb}
use lib.ListN.{length, take, drop, length-append, length-drop}
use lib.Seq.{drop-drop, take_at, take_all, length-take-le}
use native.Mathlib.Nat.{lt_irrefl}
use native.Mathlib.Omega.{arith}
use Rattle.fields.specs.Entries.{rising}
use Rattle.fields.specs.Overwrite.{overwritten}
use Rattle.fields.proofs.OverwriteLaws.{overwritten_nil, length_overwritten}
use Rattle.fields.proofs.AllLaws.{either}
use Rattle.commands.proofs.WriteLaws.{written_next}
use Rattle.keeper_lines.specs.Line.{up_to, next_line, onto_first, line_of}
use Rattle.keeper_lines.specs.declared.lines.Line.{Line}
use Rattle.keeper_lines.specs.declared.lines.Line.TheVariants as line
use Rattle.keeper_lines.proofs.FieldLaws.{too_short, line_taken, length_up_to, take_up_to}
use Rattle.keeper_text.specs.Keeping.{Keeping, Step, ended, goes, timed, at_first, in_order, begun_with, after_request, after_check, check_row, answered}
use Rattle.keeper_text.specs.Printed.{lines_of, printing, printed_from, printed}
use Rattle.keeper_text.specs.Kept.{keeping_in, Kept, keeper_of, answer_as, bytes_of}
use Rattle.keeper_text.specs.Progress.{rest_prints, Leaves, Prints}
use Rattle.keeper_text.proofs.LineLaws.{Told}
use Rattle.keeper_text.specs.declared.keeping.Keeper.{Keeper}
use Rattle.keeper_text.specs.declared.printing.Progress.{Progress}
use Rattle.keeper_text.specs.declared.printing.Rest.{Rest}
use Rattle.std.proofs.Common.{Option, None, Some}
use Rattle.settings.specs.Values.{settings_of}
use Rattle.keeper_lines.proofs.RowLaws.{row_few}
use Rattle.model.specs.Layout.{table_size}

-- ---- lines of a text

-- up to the first line feed
pub lines_next : (bytes more : List ℕ) → length (up_to 10 bytes) < length bytes
    → lines_of (bytes ++ more) ≡ up_to 10 bytes ∷ lines_of (drop (suc (length (up_to 10 bytes))) bytes ++ more)
lines_next [] more h = absurd (lt_irrefl 0 h)
lines_next (b ∷ bs) more h = go (eqb b 10) (lines_next bs more) h
  where
    go : (t : Bool)
        → (length (up_to 10 bs) < length bs → lines_of (bs ++ more) ≡ up_to 10 bs ∷ lines_of (drop (suc (length (up_to 10 bs))) bs ++ more))
        → length (cond t [] (b ∷ up_to 10 bs)) < suc (length bs)
        → cond t ([] ∷ lines_of (bs ++ more)) (onto_first b (lines_of (bs ++ more)))
        ≡ cond t [] (b ∷ up_to 10 bs) ∷ lines_of (drop (suc (length (cond t [] (b ∷ up_to 10 bs)))) (b ∷ bs) ++ more)
    go true r l = refl
    go false r l = ap (onto_first b) (r (omega arith))

-- no line feed: one line
pub lines_last : (bytes : List ℕ) → 0 < length bytes → up_to 10 bytes ≡ bytes → lines_of bytes ≡ bytes ∷ []
lines_last [] h e = absurd (lt_irrefl 0 h)
lines_last (b ∷ []) h e = go (eqb b 10) (ap length e)
  where
    go : (t : Bool) → length (cond t [] (b ∷ [])) ≡ 1 → cond t ([] ∷ []) ((b ∷ []) ∷ []) ≡ (b ∷ []) ∷ []
    go true l = absurd (lt_irrefl 0 (omega arith))
    go false l = refl
lines_last (b ∷ (d ∷ bs)) h e = go (eqb b 10) (ap length e) (lines_last (d ∷ bs) (omega arith))
  where
    go : (t : Bool) → length (cond t [] (b ∷ up_to 10 (d ∷ bs))) ≡ suc (suc (length bs))
        → (up_to 10 (d ∷ bs) ≡ d ∷ bs → lines_of (d ∷ bs) ≡ (d ∷ bs) ∷ [])
        → cond t ([] ∷ lines_of (d ∷ bs)) (onto_first b (lines_of (d ∷ bs))) ≡ (b ∷ (d ∷ bs)) ∷ []
    go true l r = absurd (lt_irrefl 0 (omega arith))
    go false l r =
        let n : length (up_to 10 (d ∷ bs)) ≡ length (d ∷ bs) = omega arith in
        let u : up_to 10 (d ∷ bs) ≡ d ∷ bs = sym (take_up_to 10 (d ∷ bs)) ∙ take_all (length (up_to 10 (d ∷ bs))) (d ∷ bs) (omega arith) in
        ap (onto_first b) (r u)

-- ---- an answer

check_few : (k : Keeping) (clock : ℕ) → length (check_row k clock) ≤ 126
unfolding check_row
check_few k clock = row_few clock _ _ _ _ _

abbrev Few : Step → Type 0
Few step = length (bytes_of step) ≤ 126

-- a line prints at most 126 bytes
pub bytes_few : (k : Keeping) (l : Option Line) → length (bytes_of (answered k l)) ≤ 126
unfolding answered
bytes_few k (Some (line.Settings timeout limit)) = either Few k.begun ended (goes (begun_with k timeout limit) []) (omega arith) (omega arith)
bytes_few k (Some (line.Request clock peer type_id byte)) =
    either Few (in_order k clock) (goes (after_request k clock peer type_id byte) []) ended (omega arith) (omega arith)
bytes_few k (Some (line.Check clock)) = either Few (in_order k clock) (goes (after_check k clock) (check_row k clock)) ended (check_few k clock) (omega arith)
bytes_few k None = omega arith

abbrev next_of : Step → Keeping
next_of ended = at_first
next_of (goes k bytes) = k

abbrev keeper_in : Option (Keeper × ℕ) → Keeper
keeper_in (Some (keeper, place)) = keeper
keeper_in None = keeper_of at_first

abbrev place_in : Option (Keeper × ℕ) → ℕ
place_in (Some (keeper, place)) = place
place_in None = 0

next_means : (at : ℕ) (keeper : Keeper) (place : ℕ) (step : Step) → Some (keeper, place) ≡ answer_as at step
    → (step ≡ goes (next_of step) (bytes_of step)) × ((keeper ≡ keeper_of (next_of step)) × (place ≡ at + length (bytes_of step)))
next_means at keeper place ended h = let z : ◌≡◌ {A = ℕ} 0 1 = cc in absurd (lt_irrefl 0 (omega arith))
next_means at keeper place (goes k bytes) h = (refl, (ap keeper_in h, ap place_in h))

ended_means : (at : ℕ) (step : Step) → None ≡ answer_as at step → step ≡ ended
ended_means at ended h = refl
ended_means at (goes k bytes) h = let z : ◌≡◌ {A = ℕ} 0 1 = cc in absurd (lt_irrefl 0 (omega arith))

-- a line that goes on has a letter and a space
other_stops : (k : Keeping) (l : Option Line) (next : Keeping) (said : List ℕ) → l ≡ None → answered k l ≡ goes next said → ⊥
unfolding answered
other_stops k l next said e h = let z : ◌≡◌ {A = ℕ} 0 1 = cc in lt_irrefl 0 (omega arith)

goes_long : (k : Keeping) (bytes : List ℕ) (next : Keeping) (said : List ℕ) → answered k (line_of bytes) ≡ goes next said → 2 ≤ length bytes
goes_long k [] next said h = absurd (other_stops k (line_of []) next said (too_short [] (omega arith)) h)
goes_long k (b ∷ []) next said h = absurd (other_stops k (line_of (b ∷ [])) next said (too_short (b ∷ []) (omega arith)) h)
goes_long k (b ∷ (d ∷ bytes)) next said h = omega arith

-- ---- all lines of a text

-- the lines before `from` are answered, the next one ends at `end`
pub record Running (k : Keeping) (text out₀ table out : List ℕ) (keeper : Keeper) (from at end : ℕ) : Type 0 where
  pub room : length text * 42 + 126 ≤ length out₀
  pub kept : Kept keeper table
  pub inside : from ≤ length text
  pub place : at ≤ from * 42
  pub next : end ≡ from + length (next_line (drop from text))
  pub long : length out ≡ length out₀
  pub stay : out ≡ overwritten 0 (take at out) out₀
  pub prints : (more : List ℕ) → printed_from k (lines_of (text ++ more))
      ≡ take at out ++ printed_from (keeping_in keeper table) (lines_of (drop from text ++ more))

pub run_starts : (text out₀ : List ℕ) (keeper : Keeper) (table : List ℕ) (end : ℕ) → length text * 42 + 126 ≤ length out₀ → Kept keeper table
    → end ≡ 0 + length (next_line (drop 0 text)) → Running (keeping_in keeper table) text out₀ table out₀ keeper 0 0 end
run_starts text out₀ keeper table end room k e = record {
  room = room;
  kept = k;
  inside = omega arith;
  place = omega arith;
  next = e;
  long = refl;
  stay = sym (overwritten_nil 0 out₀);
  prints = λ more. refl;
}

module _ {k : Keeping} {text out₀ table out : List ℕ} {keeper : Keeper} {from at end : ℕ} (s : Running k text out₀ table out keeper from at end) where
  pub run_room : at + 126 ≤ length out
  run_room = omega (arith, s.place, s.inside, s.long, s.room)

  -- the text is used up but for a line without its line feed
  pub run_ends : length text ≤ end → Prints k text out₀ (record { written = at; used = from; rest = Some (record { keeper = keeper; used = from }) }) table out
  run_ends h =
      let rest : List ℕ = drop from text in
      let l : length rest ≡ length text - from = length-drop from text in
      let u : length (up_to 10 rest) ≤ length rest = length_up_to 10 rest in
      record {
        prints = s.prints;
        left = record {
          whole = sym (take_up_to 10 rest) ∙ take_all (length (up_to 10 rest)) rest (omega (arith, s.next, s.inside));
          within = s.inside;
          kept = s.kept;
        };
        reached = refl;
        within = s.inside;
        place = run_room;
        stay = s.stay;
      }

  module _ (more_left : end < length text) where
    abbrev pub here : List ℕ
    here = take (end - from) (drop from text)

    abbrev pub step : Step
    step = answered (keeping_in keeper table) (line_of here)

    this_line : take (end - from) (drop from text) ≡ up_to 10 (drop from text)
    this_line = rw s.next (line_taken 10 from text)

    lines_here : (more : List ℕ) → lines_of (drop from text ++ more) ≡ here ∷ lines_of (drop (end + 1) text ++ more)
    lines_here more =
        let l : length (drop from text) ≡ length text - from = length-drop from text in
        let n : from + suc (length (up_to 10 (drop from text))) ≡ end + 1 = omega (arith, s.next) in
        let d : drop (suc (length (up_to 10 (drop from text)))) (drop from text) ≡ drop (end + 1) text =
        drop-drop (suc (length (up_to 10 (drop from text)))) from text ∙ ap (λ (m : ℕ). drop m text) n in
        lines_next (drop from text) more (omega (arith, s.next))
        ∙ ap (λ (bytes : List ℕ). up_to 10 (drop from text) ∷ lines_of (bytes ++ more)) d
        ∙ ap (λ (bytes : List ℕ). bytes ∷ lines_of (drop (end + 1) text ++ more)) (sym this_line)

    -- what the lines behind this one print
    abbrev others : List ℕ → Keeping → List ℕ
    others more n = printed_from n (lines_of (drop (end + 1) text ++ more))

    prints_here : (more : List ℕ) → printed_from k (lines_of (text ++ more)) ≡ take at out ++ printing step (others more)
    prints_here more = s.prints more ∙ ap (λ (ls : List (List ℕ)). take at out ++ printed_from (keeping_in keeper table) ls) (lines_here more)

    -- a line ends it
    pub run_stops : {made : Option (Keeper × ℕ)} {table' out' : List ℕ} {used : ℕ} → used ≤ length text → made ≡ None → Told step at keeper.count table out made table' out'
        → Prints k text out₀ (record { written = at; used = used; rest = None }) table' out'
    run_stops h g m =
        let z : step ≡ ended = ended_means at step (sym g ∙ m.0) in
        let o : _ ≡ out = m.1.1.0 ∙ ap (λ (x : Step). overwritten at (bytes_of x) out) z ∙ overwritten_nil at out in
        record {
          prints =
              λ more. prints_here more
              ∙ ap (λ (x : Step). take at out ++ printing x (others more)) z
              ∙ ap (λ (x : List ℕ). take at x ++ []) (sym o);
          left = tt;
          reached = tt;
          within = h;
          place = omega (arith, run_room, ap length o);
          stay = o ∙ s.stay ∙ ap (λ (x : List ℕ). overwritten 0 (take at x) out₀) (sym o);
        }

    module _ {made : Option (Keeper × ℕ)} {next : Keeper} {place : ℕ} {table' out' : List ℕ}
        (told : made ≡ Some (next, place)) (m : Told step at keeper.count table out made table' out') where
      means : (step ≡ goes (next_of step) (bytes_of step)) × ((next ≡ keeper_of (next_of step)) × (place ≡ at + length (bytes_of step)))
      means = next_means at next place step (sym told ∙ m.0)

      kept_next : Kept (keeper_of (next_of step)) table' × (keeping_in (keeper_of (next_of step)) table' ≡ next_of step)
      kept_next = rw means.0 at m.1.1.1

      few : length (bytes_of step) ≤ 126
      few = bytes_few (keeping_in keeper table) (line_of here)

      long_line : 2 ≤ length here
      long_line = goes_long (keeping_in keeper table) here (next_of step) (bytes_of step) means.0

      far : end ≡ from + length here
      far = s.next ∙ ap (λ (bytes : List ℕ). from + length bytes) (sym this_line)

      out_long : length out' ≡ length out
      out_long = ap length m.1.1.0 ∙ length_overwritten at (bytes_of step) out (omega (arith, run_room, few))

      front : take place out' ≡ take at out ++ bytes_of step
      unfolding overwritten
      front =
          let p : place ≡ at + length (bytes_of step) = means.1.1 in
          let l : length (take at out) ≡ at = length-take-le at out (omega (arith, run_room)) in
          let lb : length (take at out ++ bytes_of step) ≡ place = length-append (take at out) (bytes_of step) ∙ rw l (sym p) in
          let behind : List ℕ = drop (at + length (bytes_of step)) out in
          let a : out' ≡ (take at out ++ bytes_of step) ++ behind = m.1.1.0 ∙ sym (append_assoc (take at out) (bytes_of step) behind) in
          ap (take place) a ∙ take_at (take at out ++ bytes_of step) behind place lb

      pub run_turn : {end' : ℕ} → end' ≡ end + 1 + length (next_line (drop (end + 1) text)) → Running k text out₀ table' out' next (end + 1) place end'
      run_turn ee =
          let l : length (take at out) ≡ at = length-take-le at out (omega (arith, run_room)) in
          let z : 0 + at ≡ at = omega arith in
          let wrote : out' ≡ overwritten (0 + at) (bytes_of step) out = rw z m.1.1.0 in
          let then_is : keeping_in next table' ≡ next_of step = ap (λ (x : Keeper). keeping_in x table') means.1.0 ∙ kept_next.1 in
          record {
            room = s.room;
            kept = rw means.1.0 kept_next.0;
            inside = omega arith;
            place = omega (arith, means.1.1, few, long_line, far, s.place);
            next = ee;
            long = out_long ∙ s.long;
            stay =
                written_next 0 at (take at out) (bytes_of step) out₀ out out' l (omega (arith, run_room, few, s.long)) s.stay wrote
                ∙ ap (λ (x : List ℕ). overwritten 0 x out₀) (sym front);
            prints =
                λ more. prints_here more
                ∙ ap (λ (x : Step). take at out ++ printing x (others more)) means.0
                ∙ sym (append_assoc (take at out) (bytes_of step) (others more (next_of step)))
                ∙ ap (λ (x : List ℕ). x ++ others more (next_of step)) (sym front)
                ∙ ap (λ (n : Keeping). take place out' ++ others more n) (sym then_is);
          }

-- ---- the last line, and a whole input

-- `out'` has what is printed of a text without a line feed, from `at` to `end`
abbrev pub LastPrinted : Keeping → List ℕ → ℕ → List ℕ → List ℕ → ℕ → Type 0
LastPrinted k text at out out' end =
    (out' ≡ overwritten at (printed_from k (lines_of text)) out) × (end ≡ at + length (printed_from k (lines_of text)))

last_prints : (k : Keeping) (text : List ℕ) → 0 < length text → next_line text ≡ text
    → printed_from k (lines_of text) ≡ bytes_of (answered k (line_of text))
last_prints k text h e = ap (printed_from k) (lines_last text h e) ∙ go (answered k (line_of text))
  where
    go : (step : Step) → printing step (λ (n : Keeping). []) ≡ bytes_of step
    go ended = refl
    go (goes next bytes) = append-nil bytes

pub last_none : (k : Keeping) (text : List ℕ) (at : ℕ) (out : List ℕ) → length text < 1 → LastPrinted k text at out out at
last_none k [] at out h = (sym (overwritten_nil at out), omega arith)
last_none k (b ∷ bs) at out h = absurd (lt_irrefl 0 (omega arith))

module _ (k : Keeping) (text : List ℕ) (one : next_line text ≡ text) (h : 0 < length text) (at count : ℕ) (table out : List ℕ) where
  abbrev answer_is : Option (Keeper × ℕ) → List ℕ → List ℕ → Type 0
  answer_is made table' out' = Told (answered k (line_of text)) at count table out made table' out'

  pub last_ended : {made : Option (Keeper × ℕ)} (table' out' : List ℕ) → made ≡ None → answer_is made table' out' → LastPrinted k text at out out' at
  last_ended table' out' g m =
      let none : bytes_of (answered k (line_of text)) ≡ [] = ap bytes_of (ended_means at (answered k (line_of text)) (sym g ∙ m.0)) in
      rw (last_prints k text h one) (m.1.1.0, rw none (omega arith))

  pub last_next : {made : Option (Keeper × ℕ)} {next : Keeper} {place : ℕ} (table' out' : List ℕ) → made ≡ Some (next, place) → answer_is made table' out'
      → LastPrinted k text at out out' place
  last_next {next = next} {place = place} table' out' g m =
      rw (last_prints k text h one) (m.1.1.0, (next_means at next place (answered k (line_of text)) (sym g ∙ m.0)).1.1)

last_few : (k : Keeping) (text : List ℕ) → next_line text ≡ text → length (printed_from k (lines_of text)) ≤ 126
last_few k [] e = omega arith
last_few k (b ∷ bs) e = rw (last_prints k (b ∷ bs) (omega arith) e) (bytes_few k (line_of (b ∷ bs)))

first_is_lem : (table : List ℕ) → keeping_in (keeper_of at_first) table ≡ at_first
unfolding keeping_in at_first timed settings_of
first_is_lem table = refl

pub first_kept : (keeper : Keeper) (table : List ℕ) → keeper ≡ keeper_of at_first → table_size ≤ length table → Kept keeper table
unfolding at_first rising
first_kept keeper table e h = rw e (record { room = h; none = λ b. refl; order = refl; requests = tt })

-- All lines of an input are answered but for a last one without its line feed, or up to one that ended the program.
pub record Read (text out : List ℕ) (r : Progress) (table out₁ : List ℕ) : Type 0 where
  pub prints : Prints at_first text out r table out₁
  pub long : length out₁ ≡ length out

pub read_from_start : (keeper : Keeper) (table₀ : List ℕ) {text out : List ℕ} {r : Progress} {table out₁ : List ℕ} → keeper ≡ keeper_of at_first
    → Prints (keeping_in keeper table₀) text out r table out₁ → length out₁ ≡ length out → Read text out r table out₁
read_from_start keeper table₀ first p long =
    let start : keeping_in keeper table₀ ≡ at_first = ap (λ (x : Keeper). keeping_in x table₀) first ∙ first_is_lem table₀ in
    record { prints = rw start at p; long = long }

-- what is printed of a whole input stands in `out₂` up to `end`
abbrev pub AllPrinted : List ℕ → List ℕ → List ℕ → ℕ → Type 0
AllPrinted text out out₂ end = (out₂ ≡ overwritten 0 (printed text) out) × ((end ≡ length (printed text)) × (end ≤ length out₂))

module _ {text out : List ℕ} {r : Progress} {table out₁ : List ℕ} (a : Read text out r table out₁) where
  p : Prints at_first text out r table out₁
  p = a.prints

  abbrev done : List ℕ
  done = take r.written out₁

  so_far : printed text ≡ done ++ rest_prints table text r.rest []
  unfolding printed
  so_far = ap (λ (t : List ℕ). printed_from at_first (lines_of t)) (sym (append-nil text)) ∙ p.prints []

  written_long : length done ≡ r.written
  written_long = length-take-le r.written out₁ (omega (arith, p.place))

  pub all_stopped : r.rest ≡ None → AllPrinted text out out₁ r.written
  all_stopped e =
      let w : printed text ≡ done = so_far ∙ ap (λ (left : Option Rest). done ++ rest_prints table text left []) e ∙ append-nil done in
      (p.stay ∙ ap (λ (x : List ℕ). overwritten 0 x out) (sym w), (sym written_long ∙ ap length (sym w), omega (arith, p.place)))

  module _ (rest : Rest) (e : r.rest ≡ Some rest) where
    pub leaves : Leaves table text rest
    leaves = rw e at p.left

    -- the rest of the text, as it is lent
    abbrev left : List ℕ
    left = take (length text - rest.used) (drop rest.used text)

    left_is : left ≡ drop rest.used text
    left_is =
        let l : length (drop rest.used text) ≡ length text - rest.used = length-drop rest.used text in
        take_all (length text - rest.used) (drop rest.used text) (omega arith)

    pub left_whole : next_line left ≡ left
    left_whole = rw left_is leaves.whole

    pub all_printed : (out₂ : List ℕ) (end : ℕ) → LastPrinted (keeping_in rest.keeper table) left r.written out₁ out₂ end
        → AllPrinted text out out₂ end
    all_printed out₂ end m =
        let new : List ℕ = printed_from (keeping_in rest.keeper table) (lines_of left) in
        let few : length new ≤ 126 = last_few (keeping_in rest.keeper table) left left_whole in
        let w : printed text ≡ done ++ new =
        so_far ∙ ap (λ (some : Option Rest). done ++ rest_prints table text some []) e
        ∙ ap (λ (x : List ℕ). done ++ printed_from (keeping_in rest.keeper table) (lines_of x)) (append-nil (drop rest.used text) ∙ sym left_is) in
        let l : length (printed text) ≡ r.written + length new =
        ap length w ∙ length-append done new ∙ ap (λ (n : ℕ). n + length new) written_long in
        let l₂ : length out₂ ≡ length out₁ = ap length m.0 ∙ length_overwritten r.written new out₁ (omega (arith, p.place)) in
        let z : 0 + r.written ≡ r.written = omega arith in
        let wrote : out₂ ≡ overwritten (0 + r.written) new out₁ = rw z m.0 in
        let whole : out₂ ≡ overwritten 0 (done ++ new) out =
        written_next 0 r.written done new out out₁ out₂ written_long (omega (arith, p.place)) p.stay wrote in
        (whole ∙ ap (λ (x : List ℕ). overwritten 0 x out) (sym w), (m.1 ∙ sym l, omega (arith, p.place)))
