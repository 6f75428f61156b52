-- A record in a table: what the check reads of it, and what it writes anew.
use Prim.Native.Nat.{ℕ, suc, ◌+◌, ◌*◌, ◌^◌, ◌≤◌, ◌<◌}
use mathlib.Core.Path.{◌≡◌, refl, sym, ap, ◌∙◌}
use mathlib.Core.Bool.{Bool, true, false, not}
use mathlib.Core.List.{List, [], ◌++◌, append_assoc, append-nil}
use native.Mathlib.Omega.{arith}
use native.Mathlib.Nat.{mul-le-mul_right}
use native.Mathlib.Numerals.{add-one}
use lib.ListN.{length, take, drop, length-append}
use lib.Seq.{take_at, drop_at, length-take-le}
use borrow.Author.Tests.{eq-eqb, ne_eqb, not-true, not-false}
use Rattle.fields.specs.Facts.{Bytes}
use Rattle.fields.specs.Number.{from_be, to_be}
use Rattle.fields.specs.Entries.{entry}
use Rattle.fields.specs.Overwrite.{overwritten}
use Rattle.fields.proofs.OverwriteLaws.{length_overwritten, overwritten_within, overwritten_again, read_back}
use Rattle.fields.proofs.EntriesLaws.{length_entry, entry_field}
use Rattle.fields.proofs.PartLaws.{part_below}
use Rattle.model.specs.Protocol.{is_transaction}
use Rattle.model.specs.Settings.{Settings, expired, given_up}
use Rattle.model.specs.Delivery.{Request, waiting, retried, abandoned, forgotten, verdict, with_peer, restarted}
use Rattle.model.specs.Image.{request_of, request_bytes}
use Rattle.model.proofs.RecordLaws.{bytes_of_request, length_request, request_of_bytes}
use Rattle.commands.proofs.RecordedLaws.{entry_bytes, peer_read, type_read}
use Rattle.check_timeouts.specs.Turn.{restarted_to}
use Rattle.model.specs.Layout.{id_size, record_size}

-- ---- what is read

module _ (i : ℕ) (t : List ℕ) where
  stamp_read : from_be (take 8 (drop (i * record_size + 42) t)) ≡ (request_of (entry record_size i t)).stamp
  unfolding request_of
  stamp_read = ap from_be (sym (entry_field record_size i 42 8 t (omega arith)))

  pub checks_read : from_be (take 4 (drop (i * record_size + 50) t)) ≡ (request_of (entry record_size i t)).checks
  unfolding request_of
  checks_read = ap from_be (sym (entry_field record_size i 50 4 t (omega arith)))

-- ---- the verdict, test by test, of what was read

-- what was read of record i, and whether it is expired
pub record Seen (settings : Settings) (clock i : ℕ) (t : List ℕ) (stamp typeid checks : ℕ) (late : Bool) : Type 0 where
  pub its_stamp : stamp ≡ from_be (take 8 (drop (i * record_size + 42) t))
  pub its_type : typeid ≡ from_be (take 2 (drop (i * record_size + 40) t))
  pub its_checks : checks ≡ from_be (take 4 (drop (i * record_size + 50) t))
  pub is_late : late ≡ expired settings clock typeid checks stamp

module _ {settings : Settings} {clock i : ℕ} {t : List ℕ} {stamp typeid checks : ℕ} {late : Bool}
    (s : Seen settings clock i t stamp typeid checks late) where
  type_is : (request_of (entry record_size i t)).type_id ≡ typeid
  type_is = sym (s.its_type ∙ type_read i t)

  checks_are : suc (request_of (entry record_size i t)).checks ≡ checks + 1
  checks_are = ap suc (sym (s.its_checks ∙ checks_read i t)) ∙ sym (add-one checks)

  expired_is : let r = request_of (entry record_size i t) in expired settings clock r.type_id r.checks r.stamp ≡ late
  expired_is = rw (type_is, ← checks_read i t, ← s.its_checks, ← stamp_read i t, ← s.its_stamp) (sym s.is_late)

  pub not_expired : not late ≡ true → waiting ≡ verdict settings clock (request_of (entry record_size i t))
  unfolding verdict
  not_expired e = rw (expired_is, not-true late e)

  module _ (e : not late ≡ false) where
    pub is_forgotten : typeid ≡ 2 → forgotten ≡ verdict settings clock (request_of (entry record_size i t))
    unfolding verdict is_transaction
    is_forgotten g = rw (expired_is, not-false late e, type_is, eq-eqb typeid 2 g)

    module _ (ne : typeid ≡ 2 → ⊥) {over : Bool} (given : over ≡ given_up settings (checks + 1)) where
      pub is_abandoned : over ≡ true → abandoned ≡ verdict settings clock (request_of (entry record_size i t))
      unfolding verdict is_transaction
      is_abandoned g = rw (expired_is, not-false late e, type_is, ne_eqb typeid 2 ne, checks_are, ← given, g)

      pub is_retried : over ≡ false → retried ≡ verdict settings clock (request_of (entry record_size i t))
      unfolding verdict is_transaction
      is_retried g = rw (expired_is, not-false late e, type_is, ne_eqb typeid 2 ne, checks_are, ← given, g)

-- ---- what is written

entry_part : (width i : ℕ) (s : List ℕ) → entry width i s ≡ take width (drop (i * width) s)
unfolding entry
entry_part width i s = refl

pub id_long : (e : List ℕ) → length e ≡ record_size → length (request_of e).id ≡ id_size
unfolding request_of
id_long e l = length-take-le 32 e (omega arith)

-- a part of some bytes written over
over_part : (at : ℕ) (a b c new : List ℕ) → length a ≡ at → length b ≡ length new → overwritten at new (a ++ (b ++ c)) ≡ a ++ (new ++ c)
unfolding overwritten
over_part at a b c new h l =
    let e : length (a ++ b) ≡ at + length new = rw length-append (omega arith) in
    let d : drop (at + length new) (a ++ (b ++ c)) ≡ c = rw (← append_assoc a b c) (drop_at (a ++ b) c (at + length new) e) in
    rw (take_at a (b ++ c) at h, d)

-- stamp and checks of a record written over
fields_over : (id p ty st su ck cl : List ℕ) → length id ≡ id_size → length p ≡ 8 → length ty ≡ 2 → length st ≡ 8 → length su ≡ 8
    → length ck ≡ 4 → length cl ≡ 4
    → overwritten 50 cl (overwritten 42 su (id ++ (p ++ (ty ++ (st ++ ck))))) ≡ id ++ (p ++ (ty ++ (su ++ cl)))
fields_over id p ty st su ck cl hi hp ht hs hu hc hl =
    let la : length (id ++ (p ++ ty)) ≡ 42 = simp length-append (omega arith) in
    let ga : (tail : List ℕ) → id ++ (p ++ (ty ++ tail)) ≡ (id ++ (p ++ ty)) ++ tail = λ tail. simp append_assoc in
    let a : overwritten 42 su (id ++ (p ++ (ty ++ (st ++ ck)))) ≡ id ++ (p ++ (ty ++ (su ++ ck))) =
    ap (overwritten 42 su) (ga (st ++ ck)) ∙ over_part 42 (id ++ (p ++ ty)) st ck su la (omega arith) ∙ sym (ga (su ++ ck)) in
    let lb : length (id ++ (p ++ (ty ++ su))) ≡ 50 = simp length-append (omega arith) in
    let gb : (tail : List ℕ) → id ++ (p ++ (ty ++ (su ++ tail))) ≡ (id ++ (p ++ (ty ++ su))) ++ tail = λ tail. simp append_assoc in
    let b : overwritten 50 cl (id ++ (p ++ (ty ++ (su ++ ck)))) ≡ id ++ (p ++ (ty ++ (su ++ cl))) =
    ap (overwritten 50 cl) (gb ck ∙ ap (λ (tail : List ℕ). (id ++ (p ++ (ty ++ su))) ++ tail) (sym (append-nil ck)))
    ∙ over_part 50 (id ++ (p ++ (ty ++ su))) ck [] cl lb (omega arith) ∙ ap (λ (tail : List ℕ). (id ++ (p ++ (ty ++ su))) ++ tail) (append-nil cl)
    ∙ sym (gb cl) in
    ap (overwritten 50 cl) a ∙ b

module _ (e : List ℕ) (l : length e ≡ record_size) (f : Bytes e) where
  abbrev r : Request
  r = request_of e

  record_restarted : (clock : ℕ) → overwritten 50 (to_be 4 (suc r.checks)) (overwritten 42 (to_be 8 clock) e) ≡ request_bytes (restarted clock r)
  unfolding request_bytes restarted
  record_restarted clock =
      ap (λ (x : List ℕ). overwritten 50 (to_be 4 (suc r.checks)) (overwritten 42 (to_be 8 clock) x)) (sym (bytes_of_request e l f))
      ∙ fields_over r.id (to_be 8 r.peer) (to_be 2 r.type_id) (to_be 8 r.stamp) (to_be 8 clock) (to_be 4 r.checks) (to_be 4 (suc r.checks))
      (id_long e l) refl refl refl refl refl refl

  record_asked : (peer : ℕ) → overwritten 32 (to_be 8 peer) e ≡ request_bytes (with_peer peer r)
  unfolding request_bytes
  record_asked peer =
      ap (overwritten 32 (to_be 8 peer)) (sym (bytes_of_request e l f))
      ∙ over_part 32 r.id (to_be 8 r.peer) (to_be 2 r.type_id ++ (to_be 8 r.stamp ++ to_be 4 r.checks)) (to_be 8 peer) (id_long e l) refl

  -- both are read back
  pub restarted_back : (clock : ℕ) → clock < 2 ^ 64 → r.checks + 1 < 2 ^ 32 → request_of (request_bytes (restarted clock r)) ≡ restarted clock r
  unfolding restarted request_of
  restarted_back clock c k =
      request_of_bytes (restarted clock r) (id_long e l) (part_below 32 8 e (omega arith) f, (part_below 40 2 e (omega arith) f, (c, (omega arith, tt))))

  pub asked_back : (peer : ℕ) → peer < 2 ^ 64 → request_of (request_bytes (with_peer peer r)) ≡ with_peer peer r
  unfolding request_of
  asked_back peer p =
      request_of_bytes (with_peer peer r) (id_long e l)
      (p, (part_below 40 2 e (omega arith) f, (part_below 42 8 e (omega arith) f, (part_below 50 4 e (omega arith) f, tt))))

-- a further field of entry i written over
field_again : (width i at : ℕ) (new e t o : List ℕ) → o ≡ overwritten (i * width) e t → length e ≡ width → at + length new ≤ width
    → i * width + width ≤ length t
    → overwritten (i * width + at) new o ≡ overwritten (i * width) (overwritten at new e) t
field_again width i at new e t o q le h l =
    let lo : length o ≡ length t = ap length q ∙ length_overwritten (i * width) e t (omega arith) in
    let back : take width (drop (i * width) o) ≡ e =
    ap (λ (n : ℕ). take n (drop (i * width) o)) (sym le) ∙ rw q (read_back (i * width) e t (omega arith)) in
    let lf : length (overwritten at new e) ≡ width = length_overwritten at new e (omega arith) ∙ le in
    overwritten_within (i * width) width at new o h (omega arith)
    ∙ rw (back, q) (overwritten_again (i * width) e (overwritten at new e) t (omega arith) (omega arith))

-- two fields of entry i written one after another
two_fields : (width i a b : ℕ) (x y t o₁ o₂ : List ℕ) → a + length x ≤ width → b + length y ≤ width → i * width + width ≤ length t
    → o₁ ≡ overwritten (i * width + a) x t → o₂ ≡ overwritten (i * width + b) y o₁
    → o₂ ≡ overwritten (i * width) (overwritten b y (overwritten a x (entry width i t))) t
unfolding entry
two_fields width i a b x y t o₁ o₂ hx hy l e₁ e₂ =
    let e : List ℕ = entry width i t in
    let le : length e ≡ width = length_entry width i t l in
    let one : List ℕ = overwritten a x e in
    let l₁ : length one ≡ width = length_overwritten a x e (omega arith) ∙ le in
    let s₁ : o₁ ≡ overwritten (i * width) one t = e₁ ∙ overwritten_within (i * width) width a x t hx l in
    e₂ ∙ field_again width i b y one t o₁ s₁ l₁ hy l

-- what `restart` writes
pub restarts : (i clock : ℕ) (t : List ℕ) {o₁ o₂ : List ℕ} {checks : ℕ} → i * record_size + record_size ≤ length t → Bytes t
    → checks ≡ from_be (take 4 (drop (i * record_size + 50) t))
    → o₁ ≡ overwritten (i * record_size + 42) (to_be 8 clock) t → o₂ ≡ overwritten (i * record_size + 50) (to_be 4 (checks + 1)) o₁
    → o₂ ≡ overwritten (i * record_size) (request_bytes (restarted clock (request_of (entry record_size i t)))) t
restarts i clock t {o₁} {o₂} {checks} l f ec e₁ e₂ =
    let e : List ℕ = entry record_size i t in
    let k : checks + 1 ≡ suc (request_of e).checks = add-one checks ∙ ap suc (ec ∙ checks_read i t) in
    let b : o₂ ≡ overwritten (i * record_size + 50) (to_be 4 (suc (request_of e).checks)) o₁ =
    e₂ ∙ ap (λ (n : ℕ). overwritten (i * record_size + 50) (to_be 4 n) o₁) k in
    two_fields record_size i 42 50 (to_be 8 clock) (to_be 4 (suc (request_of e).checks)) t o₁ o₂ (omega arith) (omega arith) l e₁ b
    ∙ ap (λ (x : List ℕ). overwritten (i * record_size) x t) (record_restarted e (length_entry record_size i t l) (entry_bytes record_size i t f) clock)

-- what `mark_retried` writes
pub marks : (i peer : ℕ) (t : List ℕ) {o : List ℕ} → i * record_size + record_size ≤ length t → Bytes t
    → o ≡ overwritten (i * record_size + id_size) (to_be 8 peer) t
    → o ≡ overwritten (i * record_size) (request_bytes (with_peer peer (request_of (entry record_size i t)))) t
unfolding entry
marks i peer t l f e =
    e ∙ overwritten_within (i * record_size) record_size 32 (to_be 8 peer) t (omega arith) l
    ∙ ap (λ (x : List ℕ). overwritten (i * record_size) x t)
    (record_asked (entry record_size i t) (length_entry record_size i t l) (entry_bytes record_size i t f) peer)

entry_written : (i : ℕ) (x t u : List ℕ) → length x ≡ record_size → i * record_size + record_size ≤ length t → u ≡ overwritten (i * record_size) x t
    → entry record_size i u ≡ x
entry_written i x t u l h e =
    entry_part record_size i u
    ∙ rw e (ap (λ (n : ℕ). take n (drop (i * record_size) (overwritten (i * record_size) x t))) (sym l) ∙ read_back (i * record_size) x t (omega arith))

pub restarted_long : (clock : ℕ) (target : ℕ → ℕ) (e : List ℕ) → length e ≡ record_size
    → length (request_bytes (restarted_to clock target (request_of e))) ≡ record_size
unfolding restarted_to restarted request_of
restarted_long clock target e l = length_request (restarted_to clock target (request_of e)) (id_long e l)

-- what `retry` writes
pub retries_as : (i clock : ℕ) (target : ℕ → ℕ) (t : List ℕ) {u v : List ℕ} {failed asked : ℕ} → i * record_size + record_size ≤ length t
    → Bytes t → clock < 2 ^ 64 → (request_of (entry record_size i t)).checks + 1 < 2 ^ 32
    → u ≡ overwritten (i * record_size) (request_bytes (restarted clock (request_of (entry record_size i t)))) t
    → failed ≡ from_be (take 8 (drop (i * record_size + id_size) u)) → asked ≡ target failed
    → v ≡ overwritten (i * record_size) (request_bytes (with_peer asked (request_of (entry record_size i u)))) u
    → v ≡ overwritten (i * record_size) (request_bytes (restarted_to clock target (request_of (entry record_size i t)))) t
unfolding restarted_to restarted
retries_as i clock target t {u} {v} {failed} {asked} l f c k eu ef ea ev =
    let e : List ℕ = entry record_size i t in
    let le : length e ≡ record_size = length_entry record_size i t l in
    let one : List ℕ = request_bytes (restarted clock (request_of e)) in
    let two : List ℕ = request_bytes (restarted_to clock target (request_of e)) in
    let l₁ : length one ≡ record_size = length_request (restarted clock (request_of e)) (id_long e le) in
    let l₂ : length two ≡ record_size = restarted_long clock target e le in
    let s : request_of (entry record_size i u) ≡ restarted clock (request_of e) =
    ap request_of (entry_written i one t u l₁ l eu) ∙ restarted_back e le (entry_bytes record_size i t f) clock c k in
    let p : asked ≡ target (request_of e).peer = ea ∙ ap target (ef ∙ peer_read i u ∙ ap (λ (r : Request). r.peer) s) in
    ev ∙ rw (s, p, eu) (overwritten_again (i * record_size) one two t (omega arith) (omega arith))

-- ---- a record moved down, then retried there

-- u is t with record i moved down to `place`
pub record Moved (i place : ℕ) (t u : List ℕ) : Type 0 where
  pub down : place ≤ i
  pub inside : i * record_size + record_size ≤ length t
  pub written : u ≡ overwritten (place * record_size) (entry record_size i t) t

module _ {i place : ℕ} {t u : List ℕ} (m : Moved i place t u) where
  fits : place * record_size + record_size ≤ length t
  fits = omega (arith, mul-le-mul_right record_size m.down, m.inside)

  long : length (entry record_size i t) ≡ record_size
  long = length_entry record_size i t m.inside

  pub entry_moved : entry record_size place u ≡ entry record_size i t
  entry_moved = entry_written place (entry record_size i t) t u long fits m.written

  pub fits_moved : place * record_size + record_size ≤ length u
  fits_moved =
      let l : length u ≡ length t =
      ap length m.written ∙ length_overwritten (place * record_size) (entry record_size i t) t (omega (arith, fits, long)) in
      omega (arith, fits)

  pub moved_retried : (clock : ℕ) (target : ℕ → ℕ) {v : List ℕ}
      → v ≡ overwritten (place * record_size) (request_bytes (restarted_to clock target (request_of (entry record_size place u)))) u
      → v ≡ overwritten (place * record_size) (request_bytes (restarted_to clock target (request_of (entry record_size i t)))) t
  moved_retried clock target q =
      let new : List ℕ = request_bytes (restarted_to clock target (request_of (entry record_size i t))) in
      let n : length new ≡ record_size = restarted_long clock target (entry record_size i t) long in
      q ∙ rw (entry_moved, m.written) (overwritten_again (place * record_size) (entry record_size i t) new t (omega (arith, long)) (omega (arith, fits, long)))
