-- Words that decide between two runs: the first that differ, or the last.
use Prim.Native.Nat.{ℕ, ◌+◌, ◌≤◌, ◌<◌}
use mathlib.Core.Path.{◌≡◌, refl, sym, ap, ◌∙◌}
use mathlib.Core.Bool.{Bool, true, false, ◌&&◌, ◌||◌, cond}
use mathlib.Core.List.{List}
use native.Mathlib.Nat.{add-zero, lt_irrefl}
use native.Mathlib.Omega.{arith}
use lib.Dec.{ltb, eqb}
use lib.ListN.{length, take, drop}
use borrow.Author.Tests.{lt-ltb, le-ltb, ne_eqb, eqb-true}
use Rattle.fields.specs.Number.{from_be}
use Rattle.fields.specs.Order.{before, same}
use Rattle.fields.specs.Facts.{Bytes}
use Rattle.fields.proofs.OrderLaws.{words_before, words_same, differ_before, differ_same, last_before, last_same, equal_next, before_irreflexive, same_refl, or_false}
use Rattle.keys.specs.Decide.{Decides}
use Rattle.keys.specs.declared.unlike.Words.{Words}

pub alike_decides : (xs ys : List ℕ) → xs ≡ ys → Decides 0 0 xs ys
alike_decides xs ys e = record { order = sym (rw e (before_irreflexive ys)); equality = sym (rw e (same_refl ys)) }

-- two runs of `size` bytes, and in them words a and b of m bytes behind i bytes that are alike
pub record Behind (s t : List ℕ) (p q size i m a b : ℕ) : Type 0 where
  pub left_bytes : Bytes s
  pub right_bytes : Bytes t
  pub left_inside : p + size ≤ length s
  pub right_inside : q + size ≤ length t
  pub within : i + m ≤ size
  pub alike : take i (drop p s) ≡ take i (drop q t)
  pub left : a ≡ from_be (take m (drop (p + i) s))
  pub right : b ≡ from_be (take m (drop (q + i) t))

module _ {s t : List ℕ} {p q size i m a b : ℕ} (r : Behind s t p q size i m a b) where
  pub differ_decides : (a ≡ b → ⊥) → Decides a b (take size (drop p s)) (take size (drop q t))
  differ_decides n = record {
    order = differ_before s t r.left_bytes r.right_bytes p q size i m a b r.left_inside r.right_inside r.within r.alike r.left r.right n;
    equality =
        ne_eqb a b n ∙ sym (differ_same s t r.left_bytes r.right_bytes p q size i m a b r.left_inside r.right_inside r.within r.alike r.left r.right n);
  }

  pub last_decides : i + m ≡ size → Decides a b (take size (drop p s)) (take size (drop q t))
  last_decides w = record {
    order = last_before s t r.left_bytes r.right_bytes p q size i m a b r.left_inside r.right_inside r.within r.alike r.left r.right w;
    equality = last_same s t r.left_bytes r.right_bytes p q size i m a b r.left_inside r.right_inside r.within r.alike r.left r.right w;
  }

  pub alike_further : a ≡ b → take (i + m) (drop p s) ≡ take (i + m) (drop q t)
  alike_further = equal_next s t r.left_bytes r.right_bytes p q size i m a b r.left_inside r.right_inside r.within r.alike r.left r.right

  pub less_before : a < b → true ≡ before (take size (drop p s)) (take size (drop q t))
  less_before l = sym (lt-ltb a b l) ∙ (differ_decides (λ e. lt_irrefl a (omega arith))).order

  pub more_behind : b < a → false ≡ before (take size (drop p s)) (take size (drop q t))
  more_behind l = sym (le-ltb a b (omega arith)) ∙ (differ_decides (λ e. lt_irrefl a (omega arith))).order

module _ (s t : List ℕ) (f : Bytes s) (g : Bytes t) where
  -- first words a and b
  module _ (p q size a b : ℕ) (w : 8 ≤ size) (h : p + size ≤ length s) (k : q + size ≤ length t)
      (ea : a ≡ from_be (take 8 (drop p s))) (eb : b ≡ from_be (take 8 (drop q t))) where
    pub first_words : Behind s t p q size 0 8 a b
    first_words = record {
      left_bytes = f;
      right_bytes = g;
      left_inside = h;
      right_inside = k;
      within = w;
      alike = refl;
      left = rw (add-zero p) ea;
      right = rw (add-zero q) eb;
    }

    pub first_decides : (a ≡ b → ⊥) → Decides a b (take size (drop p s)) (take size (drop q t))
    first_decides = differ_decides first_words

    pub first_less : a < b → true ≡ before (take size (drop p s)) (take size (drop q t))
    first_less = less_before first_words

    pub first_more : b < a → false ≡ before (take size (drop p s)) (take size (drop q t))
    first_more = more_behind first_words

    pub only_decides : 8 ≡ size → Decides a b (take size (drop p s)) (take size (drop q t))
    only_decides = last_decides first_words

  -- a word in front of n bytes that are decided
  module _ (p q p' q' n : ℕ) (e : p + 8 ≡ p') (d : q + 8 ≡ q') (h : p' ≤ length s) (k : q' ≤ length t) where
    pub front_decides : (front behind : Words) {words : Words} → front.left ≡ from_be (take 8 (drop p s)) → front.right ≡ from_be (take 8 (drop q t))
        → Decides behind.left behind.right (take n (drop p' s)) (take n (drop q' t)) → words ≡ cond (eqb front.left front.right) behind front
        → Decides words.left words.right (take (8 + n) (drop p s)) (take (8 + n) (drop q t))
    front_decides front behind {words} ea eb r w = go (eqb front.left front.right) refl w
      where
        whole_before : before (take (8 + n) (drop p s)) (take (8 + n) (drop q t))
            ≡ ltb front.left front.right || (eqb front.left front.right && before (take n (drop p' s)) (take n (drop q' t)))
        whole_before = rw (ea, eb) (words_before s t f g p q 8 p' q' e d h k n)

        whole_same : same (take (8 + n) (drop p s)) (take (8 + n) (drop q t))
            ≡ eqb front.left front.right && same (take n (drop p' s)) (take n (drop q' t))
        whole_same = rw (ea, eb) (words_same s t f g p q 8 p' q' e d h k n)

        go : (b : Bool) → eqb front.left front.right ≡ b → words ≡ cond b behind front
            → Decides words.left words.right (take (8 + n) (drop p s)) (take (8 + n) (drop q t))
        go true b u = record {
          order =
              ap (λ (x : Words). ltb x.left x.right) u ∙ r.order
              ∙ sym (whole_before ∙ rw (le-ltb front.left front.right (omega (arith, eqb-true front.left front.right b)), b));
          equality = ap (λ (x : Words). eqb x.left x.right) u ∙ r.equality ∙ sym (whole_same ∙ rw b);
        }
        go false b u = record {
          order = ap (λ (x : Words). ltb x.left x.right) u ∙ sym (whole_before ∙ rw b (or_false (ltb front.left front.right)));
          equality = ap (λ (x : Words). eqb x.left x.right) u ∙ b ∙ sym (whole_same ∙ rw b);
        }
