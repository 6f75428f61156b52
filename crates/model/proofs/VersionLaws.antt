-- A well-formed image and the same image as the newest version has it: `SameAsNewest`, whatever its version.
use Prim.Native.Nat.{ℕ, ◌+◌, ◌-◌, ◌*◌, ◌^◌, ◌≤◌, ◌<◌}
use mathlib.Core.Path.{◌≡◌, refl, sym, ap, ◌∙◌}
use mathlib.Core.Bool.{Bool, true, false, ◌||◌}
use mathlib.Core.Logic.{◌⊎◌, inl, inr}
use mathlib.Core.List.{List, ◌++◌}
use native.Mathlib.Omega.{arith}
use lib.Dec.{eqb}
use lib.ListN.{length, take, drop, get_or, length-drop}
use lib.Seq.{drop-drop, get_or-drop}
use borrow.Author.Tests.{eqb-true, eqb-false}
use Rattle.fields.specs.Facts.{All, Bytes}
use Rattle.fields.specs.Number.{from_be, to_be}
use Rattle.fields.specs.Entries.{entries}
use Rattle.fields.specs.Overwrite.{overwritten}
use Rattle.fields.proofs.NumberLaws.{bytes_append, bytes_take, bytes_drop, to_be_bytes, from_be_to_be}
use Rattle.fields.proofs.EntriesLaws.{entries_wide, entries_bytes}
use Rattle.fields.proofs.OverwriteLaws.{length_overwritten, take_before, drop_after, read_back}
use Rattle.model.specs.Protocol.{tracked_limit}
use Rattle.model.specs.Delivery.{Request}
use Rattle.model.specs.State.{State}
use Rattle.model.specs.Steps.{after}
use Rattle.model.specs.Image.{newest_version, version, version_fits, types_fit, types_narrow, padded, header_bytes, decode, encode, well_formed}
use Rattle.model.specs.Image.{pending_count, stalled_count, evicted_count, settings_of, stalled_of, pending_of, evicted_of}
use Rattle.model.specs.Calls.{Call, args_of, step_refusal, step, question_refusal, question}
use Rattle.model.specs.Forecast.{forecast_refusal, forecast}
use Rattle.model.specs.MeanAge.{mean_age_refusal, mean_age}
use Rattle.model.specs.Versions.{as_version, as_newest, ReadAsFirst, SameAsNewest}
use Rattle.model.specs.Layout.{area_size, id_size, peer_size, record_size, region_at, stalled_at}
use Rattle.model.proofs.HeaderLaws.{mark}
use Rattle.model.proofs.Well.{Well}
use Rattle.model.proofs.RecordLaws.{types_low, types_narrow_lem}
use Rattle.model.proofs.ImageLaws.{Laid, well_requests, well_laid, encode_length}
use Rattle.model.proofs.FormedLaws.{Formed, formed, well_formed_lem}
use Rattle.model.proofs.RoundLaws.{records_are, laid_formed, decode_encode, encode_decode}
use Rattle.model.proofs.EntryLaws.{step_refused, step_finished}

-- ---- two areas that are the same behind the version

module _ (b a : List ℕ) (e : drop 5 b ≡ drop 5 a) where
  later : (n : ℕ) → 5 ≤ n → drop n b ≡ drop n a
  later n h =
      let m : 5 + (n - 5) ≡ n = omega arith in
      rw m at (sym (drop-drop (n - 5) 5 b) ∙ ap (drop (n - 5)) e ∙ drop-drop (n - 5) 5 a)

  one : (n : ℕ) → 5 ≤ n → get_or b n 0 ≡ get_or a n 0
  one n h =
      let m : 5 + (n - 5) ≡ n = omega arith in
      rw m at (sym (get_or-drop 5 b (n - 5) 0) ∙ ap (λ (x : List ℕ). get_or x (n - 5) 0) e ∙ get_or-drop 5 a (n - 5) 0)

  evicted_alike : evicted_count a ≤ tracked_limit → evicted_of b ≡ evicted_of a
  unfolding evicted_of
  evicted_alike few = rw (later 72 (omega arith), later (area_size - evicted_count a * id_size) (omega arith))

  stalled_alike : stalled_of b ≡ stalled_of a
  unfolding stalled_of
  stalled_alike = rw (later 68 (omega arith), later stalled_at (omega arith))

  pending_alike : pending_of b ≡ pending_of a
  unfolding pending_of
  pending_alike = rw (later 70 (omega arith), later region_at (omega arith))

  settings_alike : settings_of b ≡ settings_of a
  unfolding settings_of
  settings_alike = rw (later 16 (omega arith), later 20 (omega arith), later 24 (omega arith), later 28 (omega arith))

  decode_alike : evicted_count a ≤ tracked_limit → decode b ≡ decode a
  unfolding decode
  decode_alike few =
      rw (
        settings_alike,
        stalled_alike,
        pending_alike,
        evicted_alike few,
        one 5 (omega arith),
        one 6 (omega arith),
        one 7 (omega arith),
        later 8 (omega arith),
        later 32 (omega arith),
        later 40 (omega arith),
        later 48 (omega arith),
        later 56 (omega arith),
        later 60 (omega arith),
        later 64 (omega arith),
      )

  formed_alike : take 3 b ≡ mark → version_fits b ≡ true → types_fit b ≡ true → Formed a → Formed b
  formed_alike start v t f =
      record {
        start = start;
        version = v;
        mode = rw (one 5 (omega arith)) f.mode;
        progress_used = rw (one 5 (omega arith), one 6 (omega arith)) f.progress_used;
        entry_sent = rw (one 5 (omega arith), one 7 (omega arith)) f.entry_sent;
        stalled_few = rw (later 68 (omega arith)) f.stalled_few;
        tracked = rw (later 70 (omega arith), later 72 (omega arith)) f.tracked;
        ids_rise = rw (later 70 (omega arith), later region_at (omega arith)) f.ids_rise;
        stalled_once = rw stalled_alike f.stalled_once;
        last_progress = rw (later 32 (omega arith), later 8 (omega arith)) f.last_progress;
        last_send = rw (later 40 (omega arith), later 8 (omega arith)) f.last_send;
        requests_fit = rw (settings_alike, pending_alike, later 8 (omega arith)) f.requests_fit;
        no_peer = rw (one 5 (omega arith), later 48 (omega arith)) f.no_peer;
        header_rest = rw (later 74 (omega arith)) f.header_rest;
        stalled_rest = rw (later 68 (omega arith), later (stalled_at + stalled_count a * peer_size) (omega arith)) f.stalled_rest;
        types = t;
        between =
            rw (later 70 (omega arith), later 72 (omega arith), later (region_at + pending_count a * record_size) (omega arith)) f.between;
      }

two_versions : (area : List ℕ) → version_fits area ≡ true → (version area ≡ 1) ⊎ (version area ≡ newest_version)
unfolding version_fits
two_versions area h = go (eqb (version area) newest_version) refl h
  where
    go : (t : Bool) → eqb (version area) newest_version ≡ t → t || eqb (version area) 1 ≡ true → (version area ≡ 1) ⊎ (version area ≡ newest_version)
    go true e h = inr (eqb-true (version area) newest_version e)
    go false e h = inl (eqb-true (version area) 1 h)

-- in version 1 each high byte is zero
narrow_of : (area : List ℕ) → version area ≡ 1 → types_fit area ≡ true → types_narrow (entries record_size (pending_count area) (drop region_at area)) ≡ true
unfolding types_fit
narrow_of area v h = rw v at h

-- ---- a version written into an image

encoded_version : (st : State) → version (encode st) ≡ newest_version
unfolding encode padded header_bytes
encoded_version st = refl

module _ (number : ℕ) (area : List ℕ) (l : length area ≡ area_size) where
  same_length : length (as_version number area) ≡ area_size
  unfolding as_version
  same_length = length_overwritten 3 (to_be 2 number) area (omega arith) ∙ l

  behind_version : drop 5 (as_version number area) ≡ drop 5 area
  unfolding as_version
  behind_version = drop_after 3 (to_be 2 number) area (omega arith) 5 (omega arith)

  same_start : take 3 (as_version number area) ≡ take 3 area
  unfolding as_version
  same_start = take_before 3 (to_be 2 number) area (omega arith) 3 (omega arith)

  version_read : number < 2 ^ 16 → version (as_version number area) ≡ number
  unfolding as_version
  version_read h = ap from_be (read_back 3 (to_be 2 number) area (omega arith)) ∙ from_be_to_be 2 number h

-- ---- what version 1 wrote

module _ (st : State) (well : Well st) (low : All (λ (r : Request). r.type_id < 2 ^ 8) st.pending) where
  abbrev first : List ℕ
  first = as_version 1 (encode st)

  long : length (encode st) ≡ area_size
  long = encode_length st well

  laid : Laid st (encode st)
  laid = well_laid st well

  encoded : Formed (encode st)
  encoded = laid_formed st (encode st) long laid well

  first_version : version first ≡ 1
  first_version = version_read 1 (encode st) long (omega arith)

  -- the records stand where they stood
  first_types : types_fit first ≡ true
  unfolding types_fit
  first_types =
      let same : types_narrow (entries record_size (pending_count first) (drop region_at first)) ≡ true =
      rw (
        later first (encode st) (behind_version 1 (encode st) long) 70 (omega arith),
        later first (encode st) (behind_version 1 (encode st) long) region_at (omega arith),
        records_are st (encode st) long laid,
      )
      (types_narrow_lem st.pending (well_requests st well) low) in
      rw first_version same

  first_fits : version_fits first ≡ true
  unfolding version_fits
  first_fits = rw first_version

  pub read_as_first : ReadAsFirst st
  read_as_first =
      let behind = behind_version 1 (encode st) long in
      record {
        accepted = well_formed_lem first (formed_alike first (encode st) behind (same_start 1 (encode st) long ∙ encoded.start) first_fits first_types encoded);
        state = decode_alike first (encode st) behind (omega (arith, encoded.tracked)) ∙ decode_encode st well;
      }

-- ---- the newest version

module _ (area : List ℕ) (l : length area ≡ area_size) where
  newest_read : version (as_newest area) ≡ newest_version
  newest_read = version_read newest_version area l (omega arith)

  newest_fits : version_fits (as_newest area) ≡ true
  unfolding version_fits
  newest_fits = rw newest_read

  newest_types : types_fit (as_newest area) ≡ true
  unfolding types_fit
  newest_types = rw newest_read

  module _ (f : Bytes area) (ok : well_formed area ≡ true) where
    whole : Formed area
    whole = formed area ok

    few : evicted_count area ≤ tracked_limit
    few = omega (arith, whole.tracked)

    behind : drop 5 (as_newest area) ≡ drop 5 area
    behind = behind_version newest_version area l

    accepted : well_formed (as_newest area) ≡ true
    accepted =
        well_formed_lem (as_newest area)
        (formed_alike (as_newest area) area behind (same_start newest_version area l ∙ whole.start) newest_fits newest_types whole)

    same_state : decode (as_newest area) ≡ decode area
    same_state = decode_alike (as_newest area) area behind few

    newest_bytes : Bytes (as_newest area)
    unfolding as_version overwritten
    newest_bytes =
        bytes_append (take 3 area) (to_be 2 newest_version ++ drop 5 area) (bytes_take 3 area f)
        (bytes_append (to_be 2 newest_version) (drop 5 area) (to_be_bytes 2 newest_version) (bytes_drop 5 area f))

    image : encode (decode area) ≡ as_newest area
    image = ap encode (sym same_state) ∙ encode_decode (as_newest area) (same_length newest_version area l) newest_bytes accepted newest_read

    -- behind the version an image is the encoding of its state
    pub encode_behind : (at : ℕ) → 5 ≤ at → drop at area ≡ drop at (encode (decode area))
    encode_behind at h = sym (later (as_newest area) area behind at h) ∙ ap (drop at) (sym image)

    -- what version 1 can say of types
    low_types : version area ≡ 1 → All (λ (r : Request). r.type_id < 2 ^ 8) (decode area).pending
    unfolding decode pending_of
    low_types v =
        let wide = entries_wide record_size (pending_count area) (drop region_at area) (rw (length-drop region_at area, l) (omega (arith, whole.tracked))) in
        let bytes = entries_bytes record_size (pending_count area) (drop region_at area) (bytes_drop region_at area f) in
        types_low (entries record_size (pending_count area) (drop region_at area)) wide bytes (narrow_of area v whole.types)

    -- ---- the entries

    refusal_alike : (commands : List ℕ) (call : Call) → step_refusal (as_newest area) commands call ≡ step_refusal area commands call
    unfolding step_refusal
    refusal_alike commands call = rw (same_length newest_version area l, l, accepted, ok, same_state)

    module _ (commands : List ℕ) (call : Call) where
      answered : (step area commands call).answer ≡ (step (as_newest area) commands call).answer
      answered = go (eqb (step_refusal area commands call) 0) refl
        where
          go : (t : Bool) → eqb (step_refusal area commands call) 0 ≡ t
              → (step area commands call).answer ≡ (step (as_newest area) commands call).answer
          go true e =
              let none : step_refusal area commands call ≡ 0 = eqb-true (step_refusal area commands call) 0 e in
              rw (step_finished area commands call none, step_finished (as_newest area) commands call (refusal_alike commands call ∙ none), same_state)
          go false e =
              let n : ℕ = step_refusal area commands call in
              let some : 0 < n = omega (arith, eqb-false n 0 e) in
              rw (step_refused area commands call n refl some, step_refused (as_newest area) commands call n (refusal_alike commands call) some)

      none_of : (step area commands call).answer.number ≡ 0 → step_refusal area commands call ≡ 0
      none_of h = go (eqb (step_refusal area commands call) 0) refl
        where
          go : (t : Bool) → eqb (step_refusal area commands call) 0 ≡ t → step_refusal area commands call ≡ 0
          go true e = eqb-true (step_refusal area commands call) 0 e
          go false e =
              let n : ℕ = step_refusal area commands call in
              let some : 0 < n = omega (arith, eqb-false n 0 e) in
              rw (step_refused area commands call n refl some) at h

      finished : (step area commands call).answer.number ≡ 0
          → (step area commands call ≡ step (as_newest area) commands call) × (version (step area commands call).state ≡ newest_version)
      finished h =
          let none : step_refusal area commands call ≡ 0 = none_of h in
          let old = step_finished area commands call none in
          let new = step_finished (as_newest area) commands call (refusal_alike commands call ∙ none) in
          (rw (old, new, same_state), rw old (encoded_version (after (decode area) (args_of call))))

    asked : (commands : List ℕ) (flag : ℕ) → question area commands flag ≡ question (as_newest area) commands flag
    unfolding question question_refusal
    asked commands flag = rw (same_length newest_version area l, l, accepted, ok, same_state)

    foretold : (call : Call) → forecast area call ≡ forecast (as_newest area) call
    unfolding forecast forecast_refusal
    foretold call = rw (same_length newest_version area l, l, accepted, ok, same_state)

    aged : (clock : ℕ) → mean_age area clock ≡ mean_age (as_newest area) clock
    unfolding mean_age mean_age_refusal
    aged clock = rw (same_length newest_version area l, l, accepted, ok, same_state)

    pub same_as_newest : SameAsNewest area
    same_as_newest =
        record {
          versions = two_versions area whole.version;
          accepted = accepted;
          state = sym same_state;
          image = image;
          types = low_types;
          finished = finished;
          answered = answered;
          asked = asked;
          foretold = foretold;
          aged = aged;
        }
