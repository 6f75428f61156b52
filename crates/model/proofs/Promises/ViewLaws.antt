-- Rules 4 and 5 over a view: which heights they read, how far the height gets, and when a height that they read is not in the view.
use Prim.Native.Nat.{ℕ, zero, suc, ◌+◌, ◌-◌, ◌≤◌, ◌<◌, min}
use mathlib.Core.Path.{◌≡◌, refl, sym, ◌∙◌, subst}
use mathlib.Core.Bool.{Bool, true, false, cond, false≢true}
use mathlib.Core.Logic.{◌⊎◌, inl, inr, ⊎_elim}
use mathlib.Core.List.{List, [], ◌∷◌, cons≢nil}
use mathlib.Core.Option.{Option, none, some}
use native.Mathlib.Nat.{eq-or-lt_of_le}
use native.Mathlib.Numerals.{add-one}
use native.Mathlib.Omega.{arith}
use Rattle.fields.specs.Facts.{All}
use Rattle.fields.proofs.OrderLaws.{and_left, and_right, trichotomy}
use Rattle.model.specs.Protocol.{window_size}
use Rattle.model.specs.Sections.{Section, Header, absent, present, View, all_stored, Advance, past, advance_within, advance_downloaded_height}
use Rattle.model.specs.Sections.{Window, widen, window_within, request_sections_from, request_next_sections}
use Rattle.model.specs.Promises.Heights.{Complete}
use Rattle.model.specs.Promises.Asked.{Present}

-- ---- a height as a view shows it

stored_all : (sections : List Section) → all_stored sections ≡ true → All (λ (x : Section). x.is_stored ≡ true) sections
stored_all [] e = tt
stored_all (x ∷ sections) e =
    (and_left x.is_stored (all_stored sections) e, stored_all sections (and_right x.is_stored (all_stored sections) e))

all_stored_lem : (sections : List Section) → All (λ (x : Section). x.is_stored ≡ true) sections → all_stored sections ≡ true
all_stored_lem [] p = refl
all_stored_lem (x ∷ sections) p = rw (p.0, all_stored_lem sections p.1)

abbrev Shown : Option Header → Type 0
Shown none = ⊥
Shown (some header) = Unit {0}

-- ---- the heights behind good ones

-- A height behind heights that are all good, up to a most.
pub record Behind (Good : ℕ → Type 0) (from most height : ℕ) : Type 0 where
  pub above : from < height
  pub within : height ≤ most
  pub behind : (h : ℕ) → from < h → h < height → Good h

module _ (Good : ℕ → Type 0) (from n : ℕ) where
  first_behind : Behind Good from (from + suc n) (suc from)
  first_behind = record { above = omega arith; within = omega arith; behind = λ h p q. absurd (omega arith) }

  next_behind : (height : ℕ) → Good (suc from) → Behind Good (suc from) (suc from + n) height → Behind Good from (from + suc n) height
  next_behind height good b =
      let p = b.above in
      let q = b.within in
      record {
        above = omega arith;
        within = omega arith;
        behind = λ h l u. ⊎_elim (λ (e : suc from ≡ h). subst Good e good) (λ (m : suc from < h). b.behind h m u) (eq-or-lt_of_le l);
      }

  -- such a height is the first, or the first is good and it stands behind that
  behind_cases : (height : ℕ) → Behind Good from (from + suc n) height
      → (suc from ≡ height) ⊎ (Good (suc from) × Behind Good (suc from) (suc from + n) height)
  behind_cases height b =
      ⊎_elim inl
      (λ (m : suc from < height).
      let q = b.within in
      inr (b.behind (suc from) (omega arith) m, record { above = m; within = omega arith; behind = λ h l u. b.behind h (omega arith) u }))
      (eq-or-lt_of_le b.above)

-- A height that a rule reads, and that the view lacks.
pub record Lacks (Good : Option Header → Type 0) (view : View) (from most : ℕ) : Type 0 where
  pub height : ℕ
  pub read : Behind (λ (h : ℕ). Good (view h)) from most height
  pub lacked : view height ≡ none

module _ (Good : Option Header → Type 0) (view : View) (from n : ℕ) where
  lacks_first : view (suc from) ≡ none → Lacks Good view from (from + suc n)
  lacks_first e = record { height = suc from; read = first_behind (λ h. Good (view h)) from n; lacked = e }

  lacks_next : Good (view (suc from)) → Lacks Good view (suc from) (suc from + n) → Lacks Good view from (from + suc n)
  lacks_next good l =
      record { height = l.height; read = next_behind (λ h. Good (view h)) from n l.height good l.read; lacked = l.lacked }

  lacks_cases : Lacks Good view from (from + suc n) → (view (suc from) ≡ none) ⊎ (Good (view (suc from)) × Lacks Good view (suc from) (suc from + n))
  lacks_cases l =
      ⊎_elim
      (λ (e : suc from ≡ l.height). inl (subst (λ h. view h ≡ none) (sym e) l.lacked))
      (λ p. inr (p.0, record { height = l.height; read = p.1; lacked = l.lacked }))
      (behind_cases (λ h. Good (view h)) from n l.height l.read)

  -- nothing good stands first, so nothing is read behind it
  lacks_none : Shown (view (suc from)) → (Good (view (suc from)) → ⊥) → Lacks Good view from (from + suc n) → ⊥
  lacks_none shown bad l = ⊎_elim (λ e. subst Shown e shown) (λ p. bad p.0) (lacks_cases l)

lacks_nowhere : (Good : Option Header → Type 0) (view : View) (from : ℕ) → Lacks Good view from (from + 0) → ⊥
lacks_nowhere Good view from l = let p = l.read.above in let q = l.read.within in omega arith

-- ---- rule 5 reads the heights behind complete ones

advance_lacks : (n : ℕ) (view : View) (from : ℕ) → (advance_within n view from).in_view ≡ false → Lacks Complete view from (from + n)
advance_lacks zero view from e = absurd (false≢true (sym e))
advance_lacks (suc n) view from e = go (view (suc from)) refl (advance_lacks n view (suc from)) e
  where
    further : Advance
    further = advance_within n view (suc from)

    on : (sections : List Section) (t : Bool) → view (suc from) ≡ some (present sections) → all_stored sections ≡ t
        → (further.in_view ≡ false → Lacks Complete view (suc from) (suc from + n))
        → (cond t further (record { height = from; in_view = true })).in_view ≡ false → Lacks Complete view from (from + suc n)
    on sections true v s next e = lacks_next Complete view from n (rw v (stored_all sections s)) (next e)
    on sections false v s next e = absurd (false≢true (sym e))

    go : (header : Option Header) → view (suc from) ≡ header → (further.in_view ≡ false → Lacks Complete view (suc from) (suc from + n))
        → (past header from further).in_view ≡ false → Lacks Complete view from (from + suc n)
    go none v next e = lacks_first Complete view from n v
    go (some absent) v next e = absurd (false≢true (sym e))
    go (some (present sections)) v next e = on sections (all_stored sections) v refl next e

advance_shows : (n : ℕ) (view : View) (from : ℕ) → (advance_within n view from).in_view ≡ true → Lacks Complete view from (from + n) → ⊥
advance_shows zero view from e l = lacks_nowhere Complete view from l
advance_shows (suc n) view from e l = go (view (suc from)) refl (advance_shows n view (suc from)) e
  where
    further : Advance
    further = advance_within n view (suc from)

    stops : (header : Header) → view (suc from) ≡ some header → (Complete (some header) → ⊥) → ⊥
    stops header v bad = lacks_none Complete view from n (rw v tt) (λ c. bad (subst Complete v c)) l

    on : (sections : List Section) (t : Bool) → view (suc from) ≡ some (present sections) → all_stored sections ≡ t
        → (further.in_view ≡ true → Lacks Complete view (suc from) (suc from + n) → ⊥)
        → (cond t further (record { height = from; in_view = true })).in_view ≡ true → ⊥
    on sections true v s next e = ⊎_elim (λ q. subst Shown q (rw v tt)) (λ p. next e p.1) (lacks_cases Complete view from n l)
    on sections false v s next e = stops (present sections) v (λ c. false≢true (sym s ∙ all_stored_lem sections c))

    go : (header : Option Header) → view (suc from) ≡ header → (further.in_view ≡ true → Lacks Complete view (suc from) (suc from + n) → ⊥)
        → (past header from further).in_view ≡ true → ⊥
    go none v next e = false≢true e
    go (some absent) v next e = stops absent v (λ c. c)
    go (some (present sections)) v next e = on sections (all_stored sections) v refl next e

-- ---- rule 4 reads the heights behind headers that are there

window_lacks : (n : ℕ) (view : View) (peer from : ℕ) → (window_within n view peer from).in_view ≡ false → Lacks Present view from (from + n)
window_lacks zero view peer from e = absurd (false≢true (sym e))
window_lacks (suc n) view peer from e = go (view (suc from)) refl (window_lacks n view peer (suc from)) e
  where
    further : Window
    further = window_within n view peer (suc from)

    go : (header : Option Header) → view (suc from) ≡ header → (further.in_view ≡ false → Lacks Present view (suc from) (suc from + n))
        → (widen header peer further).in_view ≡ false → Lacks Present view from (from + suc n)
    go none v next e = lacks_first Present view from n v
    go (some absent) v next e = absurd (false≢true (sym e))
    go (some (present sections)) v next e = lacks_next Present view from n (rw v tt) (next e)

window_shows : (n : ℕ) (view : View) (peer from : ℕ) → (window_within n view peer from).in_view ≡ true → Lacks Present view from (from + n) → ⊥
window_shows zero view peer from e l = lacks_nowhere Present view from l
window_shows (suc n) view peer from e l = go (view (suc from)) refl (window_shows n view peer (suc from)) e
  where
    further : Window
    further = window_within n view peer (suc from)

    go : (header : Option Header) → view (suc from) ≡ header → (further.in_view ≡ true → Lacks Present view (suc from) (suc from + n) → ⊥)
        → (widen header peer further).in_view ≡ true → ⊥
    go none v next e = false≢true e
    go (some absent) v next e = lacks_none Present view from n (rw v tt) (λ p. subst Present v p) l
    go (some (present sections)) v next e = ⊎_elim (λ q. subst Shown q (rw v tt)) (λ p. next e p.1) (lacks_cases Present view from n l)

-- ---- how far the height gets

-- Over complete heights, up to a most, as far as it can.
pub record Reaches (view : View) (from most height : ℕ) : Type 0 where
  pub rises : from ≤ height
  pub over : (h : ℕ) → from < h → h ≤ height → Complete (view h) × (h ≤ most)
  pub as_far : (most ≤ height) ⊎ (Complete (view (height + 1)) → ⊥)

reaches_here : (view : View) (from most : ℕ) → ((most ≤ from) ⊎ (Complete (view (from + 1)) → ⊥)) → Reaches view from most from
reaches_here view from most far = record { rises = omega arith; over = λ h p q. absurd (omega arith); as_far = far }

reaches_stopped : (view : View) (from most : ℕ) → (Complete (view (suc from)) → ⊥) → Reaches view from most from
reaches_stopped view from most bad = reaches_here view from most (inr (λ c. bad (rw add-one at c)))

reaches_next : (view : View) (from n height : ℕ) → Complete (view (suc from)) → Reaches view (suc from) (suc from + n) height
    → Reaches view from (from + suc n) height
reaches_next view from n height good r =
    let q = r.rises in
    record {
      rises = omega arith;
      over = λ h l u.
          ⊎_elim
          (λ (e : suc from ≡ h). (subst (λ x. Complete (view x)) e good, omega arith))
          (λ (m : suc from < h). ((r.over h m u).0, let w = (r.over h m u).1 in omega arith))
          (eq-or-lt_of_le l);
      as_far = ⊎_elim (λ (l : suc from + n ≤ height). inl (omega arith)) inr r.as_far;
    }

advance_reaches : (n : ℕ) (view : View) (from : ℕ) → Reaches view from (from + n) (advance_within n view from).height
advance_reaches zero view from = reaches_here view from (from + 0) (inl (omega arith))
advance_reaches (suc n) view from = go (view (suc from)) refl (advance_reaches n view (suc from))
  where
    further : Advance
    further = advance_within n view (suc from)

    on : (sections : List Section) (t : Bool) → view (suc from) ≡ some (present sections) → all_stored sections ≡ t
        → Reaches view (suc from) (suc from + n) further.height
        → Reaches view from (from + suc n) (cond t further (record { height = from; in_view = true })).height
    on sections true v s next = reaches_next view from n further.height (rw v (stored_all sections s)) next
    on sections false v s next = reaches_stopped view from (from + suc n) (λ c. false≢true (sym s ∙ all_stored_lem sections (subst Complete v c)))

    go : (header : Option Header) → view (suc from) ≡ header → Reaches view (suc from) (suc from + n) further.height
        → Reaches view from (from + suc n) (past header from further).height
    go none v next = reaches_stopped view from (from + suc n) (λ c. subst Complete v c)
    go (some absent) v next = reaches_stopped view from (from + suc n) (λ c. subst Complete v c)
    go (some (present sections)) v next = on sections (all_stored sections) v refl next

-- Only one height is reached.
reaches_no_further : (view : View) (from most lower higher : ℕ) → Reaches view from most lower → Reaches view from most higher → lower < higher → ⊥
reaches_no_further view from most lower higher l h p =
    let q = l.rises in
    let next = h.over (lower + 1) (omega arith) (omega arith) in
    ⊎_elim (λ (far : most ≤ lower). let w = next.1 in omega arith) (λ bad. bad next.0) l.as_far

pub reaches_once : (view : View) (from most x y : ℕ) → Reaches view from most x → Reaches view from most y → x ≡ y
reaches_once view from most x y p q =
    ⊎_elim (λ l. absurd (reaches_no_further view from most x y p q l))
    (⊎_elim (λ e. e) (λ l. absurd (reaches_no_further view from most y x q p l)))
    (trichotomy x y)

-- ---- up to our chain height

module _ (view : View) (ours from : ℕ) where
  pub raised_reaches : Reaches view from ours (advance_downloaded_height view ours from).height
  unfolding advance_downloaded_height
  raised_reaches =
      let r = advance_reaches (ours - from) view from in
      record {
        rises = r.rises;
        over = λ h l u. ((r.over h l u).0, let w = (r.over h l u).1 in omega arith);
        as_far = ⊎_elim (λ (l : from + (ours - from) ≤ (advance_within (ours - from) view from).height). inl (omega arith)) inr r.as_far;
      }

  lacks_up_to : (Good : Option Header → Type 0) (most most' : ℕ) → ((h : ℕ) → from < h → h ≤ most → h ≤ most')
      → Lacks Good view from most → Lacks Good view from most'
  lacks_up_to Good most most' up l =
      let r = l.read in
      record {
        height = l.height;
        read = record { above = r.above; within = up l.height r.above r.within; behind = r.behind };
        lacked = l.lacked;
      }

  -- rule 5 meets a height that the view lacks
  pub raised_lacks : (advance_downloaded_height view ours from).in_view ≡ false → Lacks Complete view from ours
  unfolding advance_downloaded_height
  raised_lacks e = lacks_up_to Complete (from + (ours - from)) ours (λ h p q. omega arith) (advance_lacks (ours - from) view from e)

  -- or none
  pub raised_shows : (advance_downloaded_height view ours from).in_view ≡ true → Lacks Complete view from ours → ⊥
  unfolding advance_downloaded_height
  raised_shows e l =
      advance_shows (ours - from) view from e (lacks_up_to Complete ours (from + (ours - from)) (λ h p q. omega arith) l)

  -- rule 4 meets a height that the view lacks, and somebody is listed
  pub sections_lack : (peers : List ℕ) → (request_next_sections view ours from peers).in_view ≡ false
      → (peers ≡ [] → ⊥) × Lacks Present view from (min (from + window_size) ours)
  unfolding request_next_sections request_sections_from
  sections_lack [] e = absurd (false≢true (sym e))
  sections_lack (peer ∷ peers) e =
      let n = min (from + window_size) ours - from in
      (cons≢nil, lacks_up_to Present (from + n) (min (from + window_size) ours) (λ h p q. omega arith) (window_lacks n view peer from e))

  -- or none, or nobody is listed
  pub sections_show : (peers : List ℕ) → (request_next_sections view ours from peers).in_view ≡ true → (peers ≡ [] → ⊥)
      → Lacks Present view from (min (from + window_size) ours) → ⊥
  unfolding request_next_sections request_sections_from
  sections_show [] e listed l = listed refl
  sections_show (peer ∷ peers) e listed l =
      let n = min (from + window_size) ours - from in
      window_shows n view peer from e (lacks_up_to Present (min (from + window_size) ours) (from + n) (λ h p q. omega arith) l)
