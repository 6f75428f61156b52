-- What the refusals before a step leave to those of its result, and what a call has passed that meets none of them.
use Prim.Native.Nat.{ℕ, ◌≤◌, ◌<◌}
use mathlib.Core.Path.{◌≡◌, refl, sym, ap, ◌∙◌}
use mathlib.Core.Bool.{Bool, true, false, not, cond, ◌&&◌, ◌||◌}
use mathlib.Core.List.{List}
use native.Mathlib.Nat.{lt_irrefl}
use native.Mathlib.Omega.{arith}
use lib.ListN.{length}
use lib.Dec.{eqb, leb}
use borrow.Author.Tests.{leb-true, eqb-true, ne_eqb, lt-leb, le-leb}
use Rattle.fields.proofs.OrderLaws.{and_left, and_right}
use Rattle.model.specs.State.{State}
use Rattle.model.specs.Image.{well_formed, decode}
use Rattle.model.specs.Lists.{ids_fit, continuation_fits, pairs_fit, peers_fit, view_fits}
use Rattle.model.specs.Calls.{Call, args_of, unless, call_fits, lists_fit, image_refusal, result_refusal, call_refusal, step_refusal, question_refusal, is_flag}
use Rattle.model.specs.MeanAge.{mean_age_refusal}
use Rattle.model.proofs.FinishedLaws.{held}
use Rattle.image.specs.declared.head.Head.{Head}
use Rattle.image.specs.Heads.{head_in, head_of}
use Rattle.image.proofs.HeadLaws.{head_decode}
use Rattle.refusals.specs.Refusals.{areas_refusal, lent_refusal, given_refusal}
use Rattle.model.specs.Layout.{area_size}

-- one test more before others that split
split_unless : (ok : Bool) (number whole first last : ℕ) → 0 < number → whole ≡ cond (eqb first 0) last first
    → unless ok number whole ≡ cond (eqb (unless ok number first) 0) last (unless ok number first)
split_unless true number whole first last h e = e
split_unless false number whole first last h e = rw (ne_eqb number 0 (λ z. lt_irrefl 0 (omega arith)))

-- 4 to 8, then 9 to 11
lent_split : (st : State) (call : Call)
    → call_refusal st call ≡ cond (eqb (lent_refusal st call) 0) (result_refusal st (args_of call)) (lent_refusal st call)
unfolding call_refusal lent_refusal
lent_split st call =
    let last : ℕ = result_refusal st (args_of call) in
    let ok8 : Bool = view_fits call.view in
    let ok7 : Bool = peers_fit call.peers in
    let ok6 : Bool = lists_fit call in
    let ok5 : Bool = call_fits st call in
    let ok4 : Bool = leb st.last_clock call.clock in
    split_unless ok4 4 _ (unless ok5 5 (unless ok6 6 (unless ok7 7 (unless ok8 8 0)))) last (omega arith)
    (split_unless ok5 5 _ (unless ok6 6 (unless ok7 7 (unless ok8 8 0))) last (omega arith)
    (split_unless ok6 6 _ (unless ok7 7 (unless ok8 8 0)) last (omega arith)
    (split_unless ok7 7 _ (unless ok8 8 0) last (omega arith)
    (split_unless ok8 8 last 0 last (omega arith) refl))))

-- 1 to 8, then 9 to 11
pub refusal_split : (state area : List ℕ) (call : Call)
    → step_refusal state area call
    ≡ cond (eqb (given_refusal state (length area) call) 0) (result_refusal (decode state) (args_of call)) (given_refusal state (length area) call)
unfolding step_refusal given_refusal
refusal_split state area call =
    let last : ℕ = result_refusal (decode state) (args_of call) in
    let first : ℕ = lent_refusal (decode state) call in
    let ok3 : Bool = leb area_size (length area) in
    split_unless (eqb (length state) area_size) 1 _ (unless (well_formed state) 2 (unless ok3 3 first)) last (omega arith)
    (split_unless (well_formed state) 2 _ (unless ok3 3 first) last (omega arith)
    (split_unless ok3 3 _ first last (omega arith) (lent_split (decode state) call)))

-- What a call has passed that 1 to 8 let through.
pub record Given (state : List ℕ) (room : ℕ) (call : Call) : Type 0 where
  pub state_size : length state ≡ area_size
  pub image : well_formed state ≡ true
  pub commands_size : area_size ≤ room
  pub clock : (decode state).last_clock ≤ call.clock
  pub fits : call_fits (decode state) call ≡ true
  pub lists : lists_fit call ≡ true
  pub ids : ids_fit call.ids ≡ true
  pub one_id : not (eqb call.kind 3) || eqb (length call.ids) 32 ≡ true
  pub continuation : continuation_fits call.continuation ≡ true
  pub stored : pairs_fit call.stored ≡ true
  pub peers : peers_fit call.peers ≡ true
  pub view : view_fits call.view ≡ true

pub given : (state : List ℕ) (room : ℕ) (call : Call) → given_refusal state room call ≡ 0 → Given state room call
unfolding given_refusal lent_refusal lists_fit
given state room call e =
    let st : State = decode state in
    let r8 : ℕ = unless (view_fits call.view) 8 0 in
    let r7 : ℕ = unless (peers_fit call.peers) 7 r8 in
    let r6 : ℕ = unless (lists_fit call) 6 r7 in
    let r5 : ℕ = unless (call_fits st call) 5 r6 in
    let r4 : ℕ = unless (leb st.last_clock call.clock) 4 r5 in
    let r3 : ℕ = unless (leb area_size room) 3 r4 in
    let r2 : ℕ = unless (well_formed state) 2 r3 in
    let h1 = held (eqb (length state) area_size) 1 r2 (omega arith) e in
    let h2 = held (well_formed state) 2 r3 (omega arith) h1.1 in
    let h3 = held (leb area_size room) 3 r4 (omega arith) h2.1 in
    let h4 = held (leb st.last_clock call.clock) 4 r5 (omega arith) h3.1 in
    let h5 = held (call_fits st call) 5 r6 (omega arith) h4.1 in
    let h6 = held (lists_fit call) 6 r7 (omega arith) h5.1 in
    let h7 = held (peers_fit call.peers) 7 r8 (omega arith) h6.1 in
    let h8 = held (view_fits call.view) 8 0 (omega arith) h7.1 in
    let one : Bool = not (eqb call.kind 3) || eqb (length call.ids) 32 in
    let front : Bool = ids_fit call.ids && one in
    let back : Bool = continuation_fits call.continuation && pairs_fit call.stored in
    let f : front ≡ true = and_left front back h6.0 in
    let b : back ≡ true = and_right front back h6.0 in
    record {
      state_size = eqb-true (length state) area_size h1.0;
      image = h2.0;
      commands_size = leb-true area_size room h3.0;
      clock = leb-true st.last_clock call.clock h4.0;
      fits = h5.0;
      lists = h6.0;
      ids = and_left (ids_fit call.ids) one f;
      one_id = and_right (ids_fit call.ids) one f;
      continuation = and_left (continuation_fits call.continuation) (pairs_fit call.stored) b;
      stored = and_right (continuation_fits call.continuation) (pairs_fit call.stored) b;
      peers = h7.0;
      view = h8.0;
    }

-- ---- each number, by the tests before it

module _ (st : State) (head : Head) (clock : ℕ) (h : head_of st ≡ head) where
  pub too_early : clock < head.clock → leb st.last_clock clock ≡ false
  unfolding head_of
  too_early l = rw (ap (λ x. x.clock) h) (lt-leb head.clock clock l)

  pub in_time : head.clock ≤ clock → leb st.last_clock clock ≡ true
  unfolding head_of
  in_time l = rw (ap (λ x. x.clock) h) (le-leb head.clock clock l)

module _ (st : State) (call : Call) where
  pub lent_4 : leb st.last_clock call.clock ≡ false → 4 ≡ lent_refusal st call
  unfolding lent_refusal
  lent_4 clock = rw clock

  module _ (clock : leb st.last_clock call.clock ≡ true) where
    pub lent_5 : call_fits st call ≡ false → 5 ≡ lent_refusal st call
    unfolding lent_refusal
    lent_5 fits = rw (clock, fits)

    module _ (fits : call_fits st call ≡ true) where
      pub lent_6 : lists_fit call ≡ false → 6 ≡ lent_refusal st call
      unfolding lent_refusal
      lent_6 lists = rw (clock, fits, lists)

      module _ (lists : lists_fit call ≡ true) where
        pub lent_7 : peers_fit call.peers ≡ false → 7 ≡ lent_refusal st call
        unfolding lent_refusal
        lent_7 peers = rw (clock, fits, lists, peers)

        module _ (peers : peers_fit call.peers ≡ true) where
          -- 8 or none
          pub lent_8 : view_fits call.view ≡ false → 8 ≡ lent_refusal st call
          unfolding lent_refusal
          lent_8 view = rw (clock, fits, lists, peers, view)

          pub lent_none : view_fits call.view ≡ true → 0 ≡ lent_refusal st call
          unfolding lent_refusal
          lent_none view = rw (clock, fits, lists, peers, view)

-- 1 and 2, whatever comes behind them
module _ (state : List ℕ) (behind : ℕ) where
  pub image_1 : eqb (length state) area_size ≡ false → 1 ≡ image_refusal state behind
  image_1 size = rw size

  module _ (size : eqb (length state) area_size ≡ true) where
    pub image_2 : well_formed state ≡ false → 2 ≡ image_refusal state behind
    image_2 image = rw (size, image)

    pub image_none : well_formed state ≡ true → behind ≡ image_refusal state behind
    image_none image = rw (size, image)

-- What a state has passed that 1 and 2 let through.
pub record StateFits (state : List ℕ) : Type 0 where
  pub size : eqb (length state) area_size ≡ true
  pub image : well_formed state ≡ true

pub state_fits : (state : List ℕ) (behind : ℕ) → 0 ≡ image_refusal state behind → StateFits state
state_fits state behind e =
    let h1 = held (eqb (length state) area_size) 1 (unless (well_formed state) 2 behind) (omega arith) (sym e) in
    let h2 = held (well_formed state) 2 behind (omega arith) h1.1 in
    record { size = h1.0; image = h2.0 }

-- 3, whatever comes behind it
module _ (state : List ℕ) (room behind : ℕ) (s : StateFits state) where
  pub areas_3 : leb area_size room ≡ false → 3 ≡ areas_refusal state room behind
  areas_3 enough = rw (s.size, s.image, enough)

  pub areas_none : leb area_size room ≡ true → behind ≡ areas_refusal state room behind
  areas_none enough = rw (s.size, s.image, enough)

refuses : (ok : Bool) (number first behind : ℕ) {n : ℕ} → 0 < n → n ≡ unless ok number first → (n ≡ first → n ≡ behind) → n ≡ unless ok number behind
refuses true number first behind h e on = on e
refuses false number first behind h e on = e

-- a number of theirs stays, whatever comes behind
pub image_refused : (state : List ℕ) (behind : ℕ) {n : ℕ} → 0 < n → n ≡ image_refusal state 0 → n ≡ image_refusal state behind
image_refused state behind h e =
    refuses (eqb (length state) area_size) 1 _ _ h e (λ e. refuses (well_formed state) 2 _ _ h e (λ z. absurd (lt_irrefl 0 (omega arith))))

pub areas_refused : (state : List ℕ) (room behind : ℕ) {n : ℕ} → 0 < n → n ≡ areas_refusal state room 0 → n ≡ areas_refusal state room behind
areas_refused state room behind h e =
    refuses (eqb (length state) area_size) 1 _ _ h e
    (λ e. refuses (well_formed state) 2 _ _ h e (λ e. refuses (leb area_size room) 3 _ _ h e (λ z. absurd (lt_irrefl 0 (omega arith)))))

-- What the areas have passed that 1 to 3 let through.
pub record Areas (state : List ℕ) (room : ℕ) : Type 0 where
  pub formed : StateFits state
  pub enough : leb area_size room ≡ true

pub areas : (state : List ℕ) (room : ℕ) → 0 ≡ areas_refusal state room 0 → Areas state room
areas state room e =
    let h1 = held (eqb (length state) area_size) 1 (unless (well_formed state) 2 (unless (leb area_size room) 3 0)) (omega arith) (sym e) in
    let h2 = held (well_formed state) 2 (unless (leb area_size room) 3 0) (omega arith) h1.1 in
    let h3 = held (leb area_size room) 3 0 (omega arith) h2.1 in
    record { formed = record { size = h1.0; image = h2.0 }; enough = h3.0 }

pub given_refused : (state : List ℕ) (room : ℕ) (call : Call) {n : ℕ} → 0 < n → n ≡ areas_refusal state room 0 → n ≡ given_refusal state room call
unfolding given_refusal
given_refused state room call h e = areas_refused state room (lent_refusal (decode state) call) h e

-- 4 to 8 by the header that was read
pub given_lent : (call : Call) {state : List ℕ} {room : ℕ} {head : Head} {number : ℕ} → Areas state room → head ≡ head_in state
    → ((st : State) → head_of st ≡ head → number ≡ lent_refusal st call) → number ≡ given_refusal state room call
unfolding given_refusal
given_lent call {state} {room} a e lent =
    lent (decode state) (head_decode state a.formed.image ∙ sym e) ∙ areas_none state room (lent_refusal (decode state) call) a.formed a.enough

-- the flag of a question
module _ (state area : List ℕ) (flag : ℕ) where
  pub asked_refused : {n room : ℕ} → length area ≡ room → 0 < n → n ≡ areas_refusal state room 0 → n ≡ question_refusal state area flag
  unfolding question_refusal
  asked_refused {n} {room} e h r = areas_refused state (length area) (unless (is_flag flag) 5 0) h (rw e r)

  module _ {room : ℕ} (e : length area ≡ room) (a : Areas state room) where
    pub asked_5 : leb flag 1 ≡ false → 5 ≡ question_refusal state area flag
    unfolding question_refusal
    asked_5 flagged = rw (a.formed.size, a.formed.image, e, a.enough, flagged)

    pub asked_none : leb flag 1 ≡ true → 0 ≡ question_refusal state area flag
    unfolding question_refusal
    asked_none flagged = rw (a.formed.size, a.formed.image, e, a.enough, flagged)

-- the clock of a mean age, by the header that was read
module _ (state : List ℕ) (clock : ℕ) where
  pub mean_refused : {n : ℕ} → 0 < n → n ≡ image_refusal state 0 → n ≡ mean_age_refusal state clock
  unfolding mean_age_refusal
  mean_refused h e = image_refused state (unless (leb (decode state).last_clock clock) 4 0) h e

  module _ (s : StateFits state) {head : Head} (e : head ≡ head_in state) where
    same_head : head_of (decode state) ≡ head
    same_head = head_decode state s.image ∙ sym e

    pub mean_4 : clock < head.clock → 4 ≡ mean_age_refusal state clock
    unfolding mean_age_refusal
    mean_4 l = rw (s.size, s.image, too_early (decode state) head clock same_head l)

    pub mean_none : head.clock ≤ clock → 0 ≡ mean_age_refusal state clock
    unfolding mean_age_refusal
    mean_none l = rw (s.size, s.image, in_time (decode state) head clock same_head l)
