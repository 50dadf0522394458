-- The snapshots after a finished backup: one more at the end.
use Rattle.std.proofs.Common.{zero, suc, ◌≡◌, ◌≢◌, ⊎_elim, ℕ, ◌^◌, ◌<◌, ◌≤◌, ◌==◌, ◌&&◌, Bool, true, false, cond, Option, Some, None, is_some, List, [], ◌∷◌, ◌++◌, refl, sym, ap, ◌∙◌, arith, subst}
use Rattle.std.specs.Prelude.{slice_get, IfSome}
use Rattle.std.specs.declared.cmp.Ordering.TheVariants.{Less}
use Rattle.std.specs.Ordering.{nat_cmp}
use Rattle.std.specs.List.{AllByRecursion}
use Rattle.std.specs.List.Sorted.{IsStrictlySortedBy}
use Rattle.std.specs.Map.{keys_of}
use Rattle.std.specs.Option.{option_map}
use Rattle.std.proofs.lemmas.Bool.{cases_lt, cases_eq}
use Rattle.std.proofs.lemmas.Bool.Decides.{nat_tests}
use Rattle.tm_gate.specs.Tag.{latest}
use Rattle.tm_records.specs.declared.record.Record.{Record}
use Rattle.tm_records.specs.Records.{at}
use Rattle.tm_graph.specs.Nodes.{greatest}
use Rattle.tm_graph.specs.Growing.{grown}
use Rattle.tm_graph.proofs.Taken.{Sorted, at as entry}
use Rattle.tm_graph.proofs.Same.{same_nodes}
use Rattle.tm_graph.proofs.Joining.{at_first, at_rest}
use Rattle.tm_nodes.specs.declared.snapshot.SnapshotRow.{SnapshotRow}
use Rattle.tm_nodes.specs.Headers.{snapshot_text, IsSnapshotRow}
use Rattle.tm_nodes.specs.Records.{snapshot_of}
use Rattle.tm_store_records.specs.declared.snapshot.Snapshot.{Snapshot}
use Rattle.tm_store_records.specs.Heads.{heads_of}
use Rattle.tm_store_records.specs.Found.{is_snapshot_key, snapshot_key, numbered_snapshot, snapshots_in, machine_in}
use Rattle.tm_store_records.specs.Room.{row_of_snapshot}
use Rattle.tm_store_records.proofs.NextKeyLemmas.{at_same, at_other, lt_less}
use Rattle.tm_store_records.proofs.Placed.{place_of}
use Rattle.tm_snapshot.proofs.Finishing.{Finishing, joining, parts}
use Rattle.tm_snapshot.proofs.Adding.{is_graph, root_is_there}
use Rattle.tm_snapshot.proofs.Rows.{record_of_snapshot}
use Rattle.tm_snapshot.proofs.Readings.{head_of, head_is, is_snapshot, snapshot_rows, snapshot_rows_rise, snapshots_are_rows, snapshot_row_in, snapshot_read, numbers, machine_same}
use Rattle.tm_snapshot.proofs.PutKeyLemmas.{wanted_snapshot, wanted_other}
use Rattle.tm_snapshot.proofs.Regrown.{SnapshotsReadAgain, stands_after, sorted_after}

-- ---- one row more at the end

module _ {X : Type 0} where
  pub keys_hold : (P : ℕ → Type 0) (t : List (ℕ × X)) → ((i : ℕ) (e : ℕ × X) → slice_get t i ≡ Some e → P e.0) → AllByRecursion P (keys_of t)
  keys_hold P [] f = tt
  keys_hold P (e ∷ t) f = (f 0 e refl, keys_hold P t (λ i x is. f (suc i) x is))

  below_end : (k : ℕ) (t : List (ℕ × X)) (e : ℕ × X) → AllByRecursion (λ y. nat_cmp k y ≡ Less) (keys_of t) → k < e.0 → AllByRecursion (λ y. nat_cmp k y ≡ Less) (keys_of (t ++ e ∷ []))
  below_end k [] e above low = (lt_less k e.0 low, tt)
  below_end k (x ∷ t) e above low = (above.0, below_end k t e above.1 low)

  pub sorted_push : (t : List (ℕ × X)) (e : ℕ × X) → Sorted t → AllByRecursion (λ k. k < e.0) (keys_of t) → Sorted (t ++ e ∷ [])
  unfolding IsStrictlySortedBy
  sorted_push [] e s low = (tt, tt)
  sorted_push (x ∷ t) e s low = (below_end x.0 t e s.0 low.0, sorted_push t e s.1 low.1)

  pub at_end : (t : List (ℕ × X)) (e : ℕ × X) (q : ℕ) → q ≢ e.0 → entry (t ++ e ∷ []) q ≡ entry t q
  at_end t e q ne = by_entry (entry t q) refl
    where
      last_none : entry (e ∷ []) q ≡ None
      last_none = ap (λ b. cond b (Some e.1) None) (at_other q e.0 ne)

      by_entry : (o : Option X) → entry t q ≡ o → entry (t ++ e ∷ []) q ≡ entry t q
      by_entry None is = at_rest t (e ∷ []) q is ∙ last_none ∙ sym is
      by_entry (Some x) is = at_first t (e ∷ []) q (ap (λ (o : Option X). is_some o) is)

  pub at_last : (t : List (ℕ × X)) (e : ℕ × X) → entry t e.0 ≡ None → entry (t ++ e ∷ []) e.0 ≡ Some e.1
  at_last t e none = at_rest t (e ∷ []) e.0 none ∙ ap (λ b. cond b (Some e.1) None) (at_same e.0 e.0 refl)

numbers_push : (t : List (ℕ × SnapshotRow)) (e : ℕ × SnapshotRow) → numbers (t ++ e ∷ []) ≡ numbers t ++ numbered_snapshot e.0 e.1 ∷ []
numbers_push [] e = refl
numbers_push (x ∷ t) e = ap (λ (ss : List Snapshot). numbered_snapshot x.0 x.1 ∷ ss) (numbers_push t e)

numbers_at : (t : List (ℕ × SnapshotRow)) (i : ℕ) (e : ℕ × SnapshotRow) → slice_get t i ≡ Some e → slice_get (numbers t) i ≡ Some (numbered_snapshot e.0 e.1)
numbers_at [] i e is = absurd (cc is)
numbers_at (x ∷ t) zero e is = let same : x ≡ e = cc in ap (λ (y : ℕ × SnapshotRow). Some (numbered_snapshot y.0 y.1)) same
numbers_at (x ∷ t) (suc i) e is = numbers_at t i e is

high_key : (q : ℕ) → 2 ^ 62 ≤ snapshot_key q → is_snapshot_key (snapshot_key q) ≡ false
high_key q high = grind (arith, nat_tests)

module _ (f : Finishing) where
  open f use {h, built, date, volume, id, may}
  open parts f use {R, S, s}

  abbrev old_rows : List (ℕ × SnapshotRow)
  old_rows = snapshot_rows (heads_of R)

  abbrev own : ℕ × SnapshotRow
  own = (h.number, row_of_snapshot s)

  -- old ones have lower numbers
  old_low : AllByRecursion (λ k. k < h.number) (keys_of old_rows)
  old_low = keys_hold (λ k. k < h.number) old_rows (λ i e is.
      ((may.whole.good (snapshot_key e.0)).snapshot i (numbered_snapshot e.0 e.1) (ap (λ (ss : List Snapshot). slice_get ss i) (snapshots_are_rows (heads_of R)) ∙ numbers_at old_rows i e is) refl).most)

  none_yet : entry old_rows h.number ≡ None
  none_yet = by_row (entry old_rows h.number) refl
    where
      by_row : (o : Option SnapshotRow) → entry old_rows h.number ≡ o → o ≡ None
      by_row None e = refl
      by_row (Some row) e =
          let place = place_of old_rows h.number row e in
          let most = ((may.whole.good (snapshot_key h.number)).snapshot place.0 (numbered_snapshot h.number row) (ap (λ (ss : List Snapshot). slice_get ss place.0) (snapshots_are_rows (heads_of R)) ∙ numbers_at old_rows place.0 (h.number, row) place.1) refl).most in
          absurd (omega (arith, most))

  key_low : h.number < 2 ^ 61
  key_low = let most = may.whole.fits.most in omega (arith, most)

  -- nothing stands at its key
  pub no_record_yet : at (snapshot_key h.number) R ≡ None
  no_record_yet = by_record (at (snapshot_key h.number) R) refl
    where
      by_row : (r : Record) (o : Option SnapshotRow) → o ≡ None → is_some o ≡ true → at (snapshot_key h.number) R ≡ None
      by_row r None e t = cc
      by_row r (Some row) e t = cc

      test_of : (a b : Bool) → (a && b) ≡ true → a ≡ true
      test_of true b t = refl
      test_of false b t = t

      by_record : (o : Option Record) → at (snapshot_key h.number) R ≡ o → at (snapshot_key h.number) R ≡ None
      by_record None e = e
      by_record (Some r) e =
          let key = is_snapshot h.number key_low in
          let row : snapshot_of r.meta ≡ None = sym (sym none_yet ∙ snapshot_read R h.number may.whole.sound.rising ∙ ap (λ b. cond b (snapshot_row_in (at (snapshot_key h.number) R)) None) key ∙ ap snapshot_row_in e) in
          let good = sym (record_of_snapshot (snapshot_key h.number) (head_of r) key) ∙ (may.whole.good (snapshot_key h.number)).reads (head_of r) (head_is R (snapshot_key h.number) ∙ ap (option_map head_of) e) in
          by_row r (snapshot_of r.meta) row (test_of (is_some (snapshot_of r.meta)) (r.length == 0) good)

  -- ---- the new one

  date_low : date ≤ latest
  date_low = by_stored h.stored (may.whole.runs date may.runs).0 may.whole.fits.date
    where
      by_stored : (o : Option ℕ) → o ≡ Some date → IfSome o (λ d. d ≤ latest) → date ≤ latest
      by_stored None e h = absurd (cc e)
      by_stored (Some d) e h = let same : d ≡ date = cc in subst (λ k. k ≤ latest) same h

  root_low : built.root ≤ 2 ^ 62
  root_low = (is_graph (joining f)).low built.root (root_is_there (joining f))

  pub row_rules : IsSnapshotRow (row_of_snapshot s)
  row_rules =
      let date = date_low in
      let generation = may.is_mark.generation_most in
      let cursor = may.is_mark.cursor in
      let root = root_low in
      record { date = omega (arith, date); id = may.small; generation = omega (arith, generation); cursor = omega (arith, cursor); volume = may.name; root = omega (arith, root) }

  pub snapshot_stands : at (snapshot_key h.number) S ≡ Some (record { meta = snapshot_text (row_of_snapshot s); length = 0; blocks = [] })
  snapshot_stands = stands_after f (snapshot_key h.number) ∙ wanted_snapshot (grown h.nodes built.nodes built.root) (greatest h.nodes) built.blobs s R

  pub other_stands : (k : ℕ) → k ≢ snapshot_key h.number → k < 2 ^ 62 → at k S ≡ at k R
  other_stands k ne low = stands_after f k ∙ wanted_other (grown h.nodes built.nodes built.root) (greatest h.nodes) built.blobs s R k ne low

  rows_are : SnapshotsReadAgain → snapshot_rows (heads_of S) ≡ old_rows ++ own ∷ []
  rows_are again = same_nodes (snapshot_rows (heads_of S)) (old_rows ++ own ∷ []) (snapshot_rows_rise S (sorted_after f))
      (sorted_push old_rows own (snapshot_rows_rise R may.whole.sound.rising) old_low)
      (λ q. ⊎_elim
      (λ (here : q ≡ h.number). subst (λ k. entry (snapshot_rows (heads_of S)) k ≡ entry (old_rows ++ own ∷ []) k) (sym here) at_own)
      (λ (other : q ≢ h.number). at_other_number q other ∙ sym (at_end old_rows own q other))
      (cases_eq q h.number))
    where
      at_own : entry (snapshot_rows (heads_of S)) h.number ≡ entry (old_rows ++ own ∷ []) h.number
      at_own =
          snapshot_read S h.number (sorted_after f)
          ∙ ap (λ b. cond b (snapshot_row_in (at (snapshot_key h.number) S)) None) (is_snapshot h.number key_low)
          ∙ ap snapshot_row_in snapshot_stands ∙ again (row_of_snapshot s) row_rules
          ∙ sym (at_last old_rows own none_yet)

      at_other_number : (q : ℕ) → q ≢ h.number → entry (snapshot_rows (heads_of S)) q ≡ entry old_rows q
      at_other_number q other =
          snapshot_read S q (sorted_after f)
          ∙ ⊎_elim
          (λ (low : snapshot_key q < 2 ^ 62). ap (λ o. cond (is_snapshot_key (snapshot_key q)) (snapshot_row_in o) None) (other_stands (snapshot_key q) (λ same. other (omega (arith, same))) low))
          (λ (high : 2 ^ 62 ≤ snapshot_key q). ap (λ b. cond b (snapshot_row_in (at (snapshot_key q) S)) None) (high_key q high) ∙ sym (ap (λ b. cond b (snapshot_row_in (at (snapshot_key q) R)) None) (high_key q high)))
          (cases_lt (snapshot_key q) (2 ^ 62))
          ∙ sym (snapshot_read R q may.whole.sound.rising)

  pub snapshots_are : SnapshotsReadAgain → snapshots_in (heads_of S) ≡ h.snapshots ++ s ∷ []
  snapshots_are again =
      snapshots_are_rows (heads_of S) ∙ ap numbers (rows_are again) ∙ numbers_push old_rows own
      ∙ ap (λ (ss : List Snapshot). ss ++ s ∷ []) (sym (snapshots_are_rows (heads_of R)) ∙ sym may.whole.snapshots_are)

  pub machine_is : machine_in (heads_of S) ≡ Some h.machine
  machine_is = machine_same R S (other_stands 1 (λ same. omega (arith, same)) (omega arith)) ∙ may.whole.machine_is
