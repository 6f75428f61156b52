-- F-1's map: a height and its byte, the run of complete heights, and the same run by the trailing ones of the three words of marks.
use Prim.Native.Nat.{ℕ, zero, suc, ◌+◌, ◌-◌, ◌*◌, ◌/◌, ◌%◌, ◌^◌, ◌≤◌, ◌<◌, min}
use mathlib.Core.Path.{◌≡◌, refl, sym, ap, ◌∙◌}
use mathlib.Core.Bool.{Bool, true, false, cond, ◌&&◌, ◌||◌}
use mathlib.Core.List.{List, [], ◌∷◌, ◌++◌, map}
use native.Mathlib.Nat.{pow-suc, lt_irrefl, mod-lt, mod-eq_of_lt}
use native.Mathlib.Omega.{arith}
use lib.Dec.{eqb, leb, ltb}
use lib.ListN.{length, take, drop, length-map, length-drop, take-append-drop}
use lib.Seq.{length-take-le, drop-drop}
use lib.Count.{count_trailing_zeros, under}
use lib.Pow.{pow_pos, mod-pow-add}
use borrow.Author.Tests.{eqb-true, eqb-false, eq-eqb, ne_eqb, leb-true, leb-false, lt-leb, lt-ltb, le-ltb, ltb-true, ltb-false}
use Rattle.fields.specs.Facts.{All}
use Rattle.fields.proofs.OrderLaws.{or_false}
use Rattle.model.specs.Protocol.{window_size}
use Rattle.model.specs.Image.{bit}
use Rattle.model.specs.WindowMap.{Cell, absent, present, Map, is_complete, bits, cell_byte, flags_of, cell_of, mark, absent_above, complete_run}
use Rattle.model.specs.MapBytes.{byte_formed, trailing_ones, run_over_words}

-- ---- what a map that can be written is

abbrev pub WellCell : Cell → Type 0
WellCell absent = Unit {0}
WellCell (present flags) = length flags ≤ 3

pub record WellMap (m : Map) : Type 0 where
  pub downloaded : m.downloaded < 2 ^ 32
  pub chain_height : m.chain_height < 2 ^ 32
  pub many : length m.cells ≡ window_size
  pub cells : All WellCell m.cells
  pub above : absent_above m.chain_height m.downloaded m.cells ≡ true

-- ---- flags as a number

bit_odd : (flag : Bool) (n : ℕ) → eqb ((bit flag + 2 * n) % 2) 1 ≡ flag
bit_odd true n = eq-eqb ((1 + 2 * n) % 2) 1 (omega arith)
bit_odd false n =
    let e : (0 + 2 * n) % 2 ≡ 0 = omega arith in
    rw e

bit_half : (flag : Bool) (n : ℕ) → (bit flag + 2 * n) / 2 ≡ n
bit_half true n = omega arith
bit_half false n = omega arith

pub bit_most : (flag : Bool) → bit flag ≤ 1
bit_most true = omega arith
bit_most false = omega arith

pub bits_below : (flags : List Bool) → bits flags < 2 ^ length flags
bits_below [] = omega arith
bits_below (flag ∷ flags) =
    let b = bit_most flag in
    let h = bits_below flags in
    rw (pow-suc 2 (length flags)) (omega arith)

flags_of_bits : (flags : List Bool) → flags_of (length flags) (bits flags) ≡ flags
flags_of_bits [] = refl
flags_of_bits (flag ∷ flags) = rw (bit_odd flag (bits flags), bit_half flag (bits flags), flags_of_bits flags)

length_flags_of : (places n : ℕ) → length (flags_of places n) ≡ places
length_flags_of zero n = refl
length_flags_of (suc places) n = ap suc (length_flags_of places (n / 2))

-- ---- a height as a byte

-- at most three flags are a number below 8
pub few_below : (flags : List Bool) → length flags ≤ 3 → bits flags < 8
few_below [] h = omega arith
few_below (a ∷ []) h = let p = bit_most a in omega arith
few_below (a ∷ b ∷ []) h = let p = bit_most a in let q = bit_most b in omega arith
few_below (a ∷ b ∷ c ∷ []) h = let p = bit_most a in let q = bit_most b in let r = bit_most c in omega arith
few_below (a ∷ b ∷ c ∷ d ∷ flags) h = absurd (lt_irrefl 0 (omega arith))

pub cell_back : (c : Cell) → WellCell c → cell_of (cell_byte c) ≡ c
unfolding cell_of
cell_back absent w = refl
cell_back (present flags) w =
    let b = few_below flags w in
    let n : ℕ = length flags * 16 + bits flags in
    let q : min (n / 16) 3 ≡ length flags = omega arith in
    let r : n % 16 ≡ bits flags = omega arith in
    rw (lt-leb 128 n (omega arith), q, r, flags_of_bits flags)

pub cell_well : (byte : ℕ) → WellCell (cell_of byte)
unfolding cell_of
cell_well byte = go (leb 128 byte)
  where
    go : (t : Bool) → WellCell (cond t absent (present (flags_of (min (byte / 16) 3) (byte % 16))))
    go true = tt
    go false = rw (length_flags_of (min (byte / 16) 3) (byte % 16)) (omega arith)

pub cell_below : (c : Cell) → WellCell c → cell_byte c < 256
cell_below absent w = omega arith
cell_below (present flags) w = let b = few_below flags w in omega arith

pub cells_back : (cells : List Cell) → All WellCell cells → map cell_of (map cell_byte cells) ≡ cells
cells_back [] w = refl
cells_back (c ∷ cells) w = rw (cell_back c w.0, cells_back cells w.1)

pub cells_well : (bytes : List ℕ) → All WellCell (map cell_of bytes)
cells_well [] = tt
cells_well (byte ∷ bytes) = (cell_well byte, cells_well bytes)

-- ---- marks

pub mark_below : (n : ℕ) (cells : List Cell) → length cells ≡ n → mark cells < 2 ^ n
mark_below n cells l =
    let e : length (map is_complete cells) ≡ n = length-map cells is_complete ∙ l in
    rw e at (bits_below (map is_complete cells))

-- how many of the lowest digits are set, by the trailing zeros of the complement
trailing_run : (n : ℕ) (cells : List Cell) → length cells ≡ n → count_trailing_zeros n (2 ^ n - 1 - mark cells) ≡ complete_run cells
unfolding count_trailing_zeros
trailing_run zero [] l = refl
trailing_run zero (c ∷ cells) l = absurd (lt_irrefl 0 (omega arith))
trailing_run (suc n) [] l = absurd (lt_irrefl 0 (omega arith))
trailing_run (suc n) (c ∷ cells) l = go (is_complete c) (trailing_run n cells k) (mark_below n cells k)
  where
    k : length cells ≡ n
    k = omega arith

    go : (t : Bool) → count_trailing_zeros n (2 ^ n - 1 - mark cells) ≡ complete_run cells → mark cells < 2 ^ n
        → under ((2 ^ suc n - 1 - (bit t + 2 * mark cells)) % 2) (count_trailing_zeros n ((2 ^ suc n - 1 - (bit t + 2 * mark cells)) / 2))
        ≡ cond t (suc (complete_run cells)) 0
    go true e b =
        let p = pow-suc 2 n in
        let r : (2 ^ suc n - 1 - (1 + 2 * mark cells)) % 2 ≡ 0 = omega arith in
        let q : (2 ^ suc n - 1 - (1 + 2 * mark cells)) / 2 ≡ 2 ^ n - 1 - mark cells = omega arith in
        rw (r, q, e)
    go false e b =
        let p = pow-suc 2 n in
        let r : (2 ^ suc n - 1 - (0 + 2 * mark cells)) % 2 ≡ 1 = omega arith in
        rw r

pub ones_run : (cells : List Cell) → length cells ≡ 64 → trailing_ones (mark cells) ≡ complete_run cells
unfolding trailing_ones
ones_run cells l = trailing_run 64 cells l

-- ---- a run over two lists

pub run_most : (cells : List Cell) → complete_run cells ≤ length cells
run_most [] = omega arith
run_most (c ∷ cells) = go (is_complete c) (run_most cells)
  where
    go : (t : Bool) → complete_run cells ≤ length cells → cond t (suc (complete_run cells)) 0 ≤ suc (length cells)
    go true h = omega arith
    go false h = omega arith

-- "a full first word goes on into the second"
run_append : (a b : List Cell) → complete_run (a ++ b) ≡ cond (ltb (complete_run a) (length a)) (complete_run a) (length a + complete_run b)
run_append [] b = omega arith
run_append (c ∷ a) b = go (is_complete c) (ltb (complete_run a) (length a)) refl (run_append a b)
  where
    go : (t s : Bool) → ltb (complete_run a) (length a) ≡ s → complete_run (a ++ b)
        ≡ cond (ltb (complete_run a) (length a)) (complete_run a) (length a + complete_run b)
        → cond t (suc (complete_run (a ++ b))) 0
        ≡ cond (ltb (cond t (suc (complete_run a)) 0) (suc (length a))) (cond t (suc (complete_run a)) 0) (suc (length a) + complete_run b)
    go true true f e = rw (lt-ltb (suc (complete_run a)) (suc (length a)) (omega (arith, ltb-true (complete_run a) (length a) f)), e, f)
    go true false f e =
        let s : suc (length a) + complete_run b ≡ suc (length a + complete_run b) = omega arith in
        rw (le-ltb (suc (complete_run a)) (suc (length a)) (omega (arith, ltb-false (complete_run a) (length a) f)), e, f, s)
    go false s f e = rw (lt-ltb 0 (suc (length a)) (omega arith))

word_further : (t : Bool) (m n : ℕ) → 64 + cond t m (64 + n) ≡ cond t (64 + m) (128 + n)
word_further true m n = refl
word_further false m n = omega arith

-- The run over 192 cells, by the trailing ones of their three words.
pub run_by_words : (cells : List Cell) → length cells ≡ window_size
    → complete_run cells ≡ run_over_words (mark (take 64 cells)) (mark (take 64 (drop 64 cells))) (mark (drop 128 cells))
unfolding run_over_words
run_by_words cells l =
    let a : List Cell = take 64 cells in
    let b : List Cell = take 64 (drop 64 cells) in
    let c : List Cell = drop 128 cells in
    let la : length a ≡ 64 = length-take-le 64 cells (omega arith) in
    let lb : length b ≡ 64 = length-take-le 64 (drop 64 cells) (simp length-drop (omega arith)) in
    let lc : length c ≡ 64 = simp length-drop (omega arith) in
    let rest : b ++ c ≡ drop 64 cells = ap (λ (x : List Cell). b ++ x) (sym (drop-drop 64 64 cells)) ∙ take-append-drop 64 (drop 64 cells) in
    let whole : a ++ (b ++ c) ≡ cells = ap (λ (x : List Cell). a ++ x) rest ∙ take-append-drop 64 cells in
    let more : complete_run (b ++ c) ≡ cond (ltb (complete_run b) 64) (complete_run b) (64 + complete_run c) = rw lb at (run_append b c) in
    let run : complete_run (a ++ (b ++ c)) ≡ cond (ltb (complete_run a) 64) (complete_run a) (64 + complete_run (b ++ c)) = rw la at (run_append a (b ++ c)) in
    ap complete_run (sym whole) ∙ run ∙ rw (more, ones_run a la, ones_run b lb, ones_run c lc)
    (ap (λ (x : ℕ). cond (ltb (complete_run a) 64) (complete_run a) x) (word_further (ltb (complete_run b) 64) (complete_run b) (complete_run c)))

-- ---- a byte that some height is written as

bit_of_rest : (n : ℕ) → bit (eqb (n % 2) 1) ≡ n % 2
bit_of_rest n = go (eqb (n % 2) 1) refl
  where
    go : (t : Bool) → eqb (n % 2) 1 ≡ t → bit t ≡ n % 2
    go true e = sym (eqb-true (n % 2) 1 e)
    go false e = omega (arith, eqb-false (n % 2) 1 e)

bits_of_flags : (places n : ℕ) → bits (flags_of places n) ≡ n % 2 ^ places
bits_of_flags zero n = omega arith
bits_of_flags (suc places) n =
    let s : suc places ≡ places + 1 = omega arith in
    rw (bit_of_rest n, bits_of_flags places (n / 2), s, mod-pow-add n places 1) (omega arith)

pub cell_formed : (byte : ℕ) → eqb byte (cell_byte (cell_of byte)) ≡ byte_formed byte
unfolding cell_of byte_formed
cell_formed byte = go (leb 128 byte) (ltb byte 64) (ltb (byte % 16) (2 ^ (byte / 16))) refl refl refl
  where
    many : ℕ
    many = min (byte / 16) 3

    low : ℕ
    low = byte % 16

    -- the byte of the cell that it is read as
    written : leb 128 byte ≡ false → cell_byte (cell_of byte) ≡ many * 16 + low % 2 ^ many
    written e = rw (e, length_flags_of many low, bits_of_flags many low)

    go : (p q r : Bool) → leb 128 byte ≡ p → ltb byte 64 ≡ q → ltb low (2 ^ (byte / 16)) ≡ r → eqb byte (cell_byte (cell_of byte)) ≡ eqb byte 128 || (q && r)
    go true q r p t u =
        let h = leb-true 128 byte p in
        let f : q ≡ false = sym t ∙ le-ltb byte 64 (omega arith) in
        rw (p, f) (sym (or_false (eqb byte 128)))
    go false q r p t u =
        let h = leb-false 128 byte p in
        rw (written p, ne_eqb byte 128 (λ e. lt_irrefl 0 (omega arith))) (below q r t u)
      where
        below : (q r : Bool) → ltb byte 64 ≡ q → ltb low (2 ^ (byte / 16)) ≡ r → eqb byte (many * 16 + low % 2 ^ many) ≡ q && r
        below true true t u =
            let k = ltb-true byte 64 t in
            let n : many ≡ byte / 16 = omega arith in
            let e : low % 2 ^ (byte / 16) ≡ low = mod-eq_of_lt (ltb-true low (2 ^ (byte / 16)) u) in
            rw (n, e) (eq-eqb byte (byte / 16 * 16 + low) (omega arith))
        below true false t u =
            let k = ltb-true byte 64 t in
            let n : many ≡ byte / 16 = omega arith in
            let z : 0 < 2 ^ (byte / 16) = pow_pos (byte / 16) in
            let l : low % 2 ^ (byte / 16) < 2 ^ (byte / 16) = mod-lt low z in
            let g = ltb-false low (2 ^ (byte / 16)) u in
            rw n (ne_eqb byte (byte / 16 * 16 + low % 2 ^ (byte / 16)) (λ e. lt_irrefl 0 (omega arith)))
        below false r t u =
            let k = ltb-false byte 64 t in
            let n : many ≡ 3 = omega arith in
            rw n (ne_eqb byte (3 * 16 + low % 2 ^ 3) (λ e. lt_irrefl 0 (omega arith)))
