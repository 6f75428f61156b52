-- What a header says of its state.
use Prim.{⊥}
use Prim.Native.Nat.{ℕ}
use mathlib.Core.Path.{◌≡◌, sym, ap, ◌∙◌}
use mathlib.Core.Bool.{true, false}
use lib.Dec.{eqb}
use borrow.Author.Tests.{eq-eqb, ne_eqb}
use Rattle.model.specs.Settings as model
use Rattle.model.specs.State.{State, mode_number}
use Rattle.settings.specs.Values.{settings_of}
use Rattle.image.specs.declared.head.Head.{Head}
use Rattle.image.specs.Heads.{head_of}

module _ (st : State) (head : Head) (h : head_of st ≡ head) where
  pub used_of : head.used ≡ st.sync.progress_used
  unfolding head_of
  used_of = sym (ap (λ (x : Head). x.used) h)

  pub peer_of_lem : head.peer ≡ st.sync.sync_peer
  unfolding head_of
  peer_of_lem = sym (ap (λ (x : Head). x.peer) h)

  pub downloaded_of : head.downloaded ≡ st.sync.downloaded
  unfolding head_of
  downloaded_of = sym (ap (λ (x : Head). x.downloaded) h)

  pub has_stalled : (clock : ℕ) → model.stalled (settings_of head.settings) clock head.progress ≡ model.stalled st.settings clock st.sync.last_progress
  unfolding head_of settings_of
  has_stalled clock = rw (sym h)

  -- which mode the state is in
  pub is_mode_lem : (n : ℕ) → head.mode ≡ n → eqb (mode_number st.mode) n ≡ true
  unfolding head_of
  is_mode_lem n e = eq-eqb _ _ (ap (λ (x : Head). x.mode) h ∙ e)

  pub not_mode : (n : ℕ) → (head.mode ≡ n → ⊥) → eqb (mode_number st.mode) n ≡ false
  unfolding head_of
  not_mode n e = ne_eqb _ _ (λ (x : mode_number st.mode ≡ n). e (sym (ap (λ (x : Head). x.mode) h) ∙ x))
