-- A peer among others, flags that say it is none of them, and the peers as they are read.
use Rattle.std.proofs.Common.{ℕ, zero, suc, ◌+◌, ◌-◌, ◌%◌, ◌≤◌, ◌<◌, ◌≡◌, refl, sym, ap, ◌∙◌, Bool, true, false, not, ◌&&◌, ◌||◌, eqb, List, [], ◌∷◌, map, length}
use Rattle.std.proofs.Common.{take, drop, get_or, set, length-drop, length-set, drop-cons, add-one, arith}
use Rattle.std.proofs.lemmas.Bool.{false≢true}
use Rattle.std.proofs.Math.Seq.{get_or-set_same, drop-length, take_all}
use native.Mathlib.Nat.{lt_irrefl, mod-lt}
use borrow.Author.Tests.{eqb-true}
use Rattle.fields.specs.Number.{from_be}
use Rattle.fields.specs.Entries.{entries}
use Rattle.fields.proofs.OrderLaws.{or_false}
use Rattle.fields.proofs.EntriesLaws.{entries_take}
use Rattle.model.specs.Peers.{is_listed}
use Rattle.model.specs.Image.{none_twice, stalled_of, stalled_count}
use Rattle.peers.specs.Stalled.{stalled_peers}
use Rattle.peers.specs.declared.stalled_set.Stalled.{Stalled}
use Rattle.peers.proofs.StalledLaws.{elements_take}
use Rattle.image_test.specs.Flags.{Flagged}
use Rattle.model.specs.Layout.{region_at}

-- one peer more that may be it
pub listed_more : (peer : ℕ) (peers : List ℕ) (i : ℕ) → i < length peers
    → is_listed peer (take (i + 1) peers) ≡ is_listed peer (take i peers) || eqb peer (get_or peers i 0)
listed_more peer [] i h = absurd (lt_irrefl 0 (omega arith))
listed_more peer (other ∷ others) zero h = or_false (eqb peer other)
listed_more peer (other ∷ others) (suc i) h = rw add-one (go (eqb peer other) (rw add-one at (listed_more peer others i (omega arith))))
  where
    go : (t : Bool) → is_listed peer (take (suc i) others) ≡ is_listed peer (take i others) || eqb peer (get_or others i 0)
        → t || is_listed peer (take (suc i) others) ≡ (t || is_listed peer (take i others)) || eqb peer (get_or others i 0)
    go true e = refl
    go false e = e

-- ---- flags

flagged_none : (flags : List ℕ) → Flagged flags []
flagged_none flags peer h = absurd (false≢true h)

-- a peer whose flag is not set is none of them
pub unflagged : (flags peers : List ℕ) (peer : ℕ) → Flagged flags peers → get_or flags (peer % 4096) 0 ≡ 0 → is_listed peer peers ≡ false
unflagged flags peers peer f z = go (is_listed peer peers) refl
  where
    go : (t : Bool) → is_listed peer peers ≡ t → t ≡ false
    go false e = refl
    go true e = absurd (lt_irrefl 0 (omega (arith, f peer e)))

-- setting one clears none
flag_stays : (flags : List ℕ) (k j : ℕ) → get_or flags j 0 ≡ 1 → get_or (set flags k 1) j 0 ≡ 1
flag_stays [] k j h = h
flag_stays (x ∷ flags) zero zero h = refl
flag_stays (x ∷ flags) zero (suc j) h = h
flag_stays (x ∷ flags) (suc k) zero h = h
flag_stays (x ∷ flags) (suc k) (suc j) h = flag_stays flags k j h

flagged_cons : (flags peers : List ℕ) (peer : ℕ) → length flags ≡ 4096 → Flagged flags peers → Flagged (set flags (peer % 4096) 1) (peer ∷ peers)
flagged_cons flags peers peer l f other h = go (eqb other peer) refl
  where
    go : (t : Bool) → eqb other peer ≡ t → get_or (set flags (peer % 4096) 1) (other % 4096) 0 ≡ 1
    go true e = rw (eqb-true other peer e) (get_or-set_same flags (peer % 4096) 1 0 (rw l (mod-lt peer (omega arith))))
    go false e = flag_stays flags (peer % 4096) (other % 4096) (f other (rw e at h))

-- ---- from the last to the first

-- these peers have set their flags, and `ok` is what is to be said of them
pub record Passed (flags : List ℕ) (ok : Bool) (peers : List ℕ) : Type 0 where
  pub flags_len : length flags ≡ 4096
  pub flagged : Flagged flags peers
  pub told : ok ≡ none_twice peers

pub passed_none : (flags peers : List ℕ) → length flags ≡ 4096 → Passed flags true (drop (length peers) peers)
unfolding none_twice
passed_none flags peers l = rw drop-length (record { flags_len = l; flagged = flagged_none flags; told = refl })

pub passed_next : (flags peers : List ℕ) (ok listed : Bool) (i k : ℕ) → k ≡ i + 1 → i < length peers → Passed flags ok (drop k peers)
    → listed ≡ is_listed (get_or peers i 0) (take (length peers - (i + 1)) (drop (i + 1) peers))
    → Passed (set flags (get_or peers i 0 % 4096) 1) (not listed && ok) (drop i peers)
unfolding none_twice
passed_next flags peers ok listed i k e h p r =
    let d : drop i peers ≡ get_or peers i 0 ∷ drop k peers = rw (e, add-one) (drop-cons peers i 0 h) in
    let b : take (length peers - (i + 1)) (drop (i + 1) peers) ≡ drop k peers =
    rw e (take_all (length peers - (i + 1)) (drop (i + 1) peers) (rw length-drop (omega arith))) in
    rw d (record {
      flags_len = rw length-set p.flags_len;
      flagged = flagged_cons flags (drop k peers) (get_or peers i 0) p.flags_len p.flagged;
      told = rw (r, b, p.told);
    })

-- ---- the peers as they are read

module _ (area : List ℕ) (n : ℕ) (e : n ≡ stalled_count area) where
  -- one alone is not there twice
  pub few_once : n < 2 → true ≡ none_twice (stalled_of area)
  unfolding none_twice stalled_of
  few_once h = go n h e
    where
      go : (m : ℕ) → m < 2 → m ≡ stalled_count area → true ≡ none_twice (map from_be (entries 8 (stalled_count area) (drop 512 area)))
      go zero l q = rw (sym q)
      go (suc zero) l q = rw (sym q)
      go (suc (suc m)) l q = absurd (lt_irrefl 0 (omega arith))

  pub stalled_read : (stalled : Stalled) → length stalled.peers ≡ 256 → n ≤ 256 → region_at ≤ length area
      → stalled_peers stalled ≡ map from_be (entries 8 n (take 2048 (drop 512 area))) → stalled.count ≡ n
      → none_twice (take n stalled.peers) ≡ none_twice (stalled_of area)
  unfolding stalled_peers stalled_of
  stalled_read stalled room few l p k =
      let q : take n stalled.peers ≡ map from_be (entries 8 n (take 2048 (drop 512 area))) =
      sym (elements_take n stalled.peers (omega arith)) ∙ rw k at p in
      ap none_twice (q ∙ rw (entries_take 8 n 2048 (drop 512 area) (omega arith) (rw (length-drop 512 area) (omega arith)), e))
