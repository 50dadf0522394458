-- One key put or taken away changes the records there alone.
use Rattle.std.proofs.Common.{◌≡◌, ◌⊎◌, inl, inr, ⊎_elim, ℕ, ◌<◌, ◌≤◌, ◌^◌, List, [], ◌∷◌, cond, refl, sym, ◌∙◌, ap, subst, arith}
use Rattle.std.specs.List.{All, Contains, AllByRecursion}
use Rattle.std.specs.List.Sorted.{IsStrictlySortedBy}
use Rattle.std.specs.Ordering.{nat_cmp, is_eq, match_ordering}
use Rattle.std.specs.Cmp.{nat_cmp_is}
use Rattle.std.specs.declared.cmp.Ordering.TheVariants.{Less, Equal, Greater}
use Rattle.std.specs.BTreeMap.{insert_entry, is_at}
use Rattle.std.specs.Map.{keys_of, remove_entry}
use Rattle.std.proofs.lemmas.Bool.{cases_lt}
use Rattle.std.proofs.lemmas.List.Elements.{All-head, All-tail}
use Rattle.std.proofs.lemmas.Map.Keys.{sorted_head, sorted_tail}
use Rattle.tm_records.specs.declared.record.Record.{Record}
use Rattle.tm_records.specs.Records.{Records}
use Rattle.tm_runs.specs.Marks.{below, part}
use Rattle.tm_runs.specs.Changes.{ChangesByKey, KeysAreNumbers}
use Rattle.tm_runs.proofs.Stretches.{below_lt, below_le, rest_lt, rest_le, rest_zero}
use Rattle.tm_runs.proofs.Encoding.{less_lt}

three : (a b : ℕ) → (a < b) ⊎ ((a ≡ b) ⊎ (b < a))
three a b = ⊎_elim (λ (lt : a < b). inl lt) (λ (le : b ≤ a). inr (⊎_elim (λ (lt : b < a). inr lt) (λ (ge : a ≤ b). inl (omega arith)) (cases_lt b a))) (cases_lt a b)

module _ (k : ℕ) (v : Record) where
  abbrev put : Records → Records
  put es = insert_entry nat_cmp es k v

  put_less : (e : ℕ × Record) (es : Records) → k < e.0 → put (e ∷ es) ≡ (k, v) ∷ e ∷ es
  put_less e es lt = ap (λ o. match_ordering o ((k, v) ∷ e ∷ es) ((e.0, v) ∷ es) (e ∷ put es)) (sym (nat_cmp_is k e.0 Less lt))

  put_same : (e : ℕ × Record) (es : Records) → k ≡ e.0 → put (e ∷ es) ≡ (e.0, v) ∷ es
  put_same e es is = ap (λ o. match_ordering o ((k, v) ∷ e ∷ es) ((e.0, v) ∷ es) (e ∷ put es)) (sym (nat_cmp_is k e.0 Equal is))

  put_more : (e : ℕ × Record) (es : Records) → e.0 < k → put (e ∷ es) ≡ e ∷ put es
  put_more e es lt = ap (λ o. match_ordering o ((k, v) ∷ e ∷ es) ((e.0, v) ∷ es) (e ∷ put es)) (sym (nat_cmp_is k e.0 Greater lt))

  below_put : (high : ℕ) (es : Records) → high ≤ k → below high es ≡ below high (put es)
  below_put high [] le = sym (below_le high (k, v) [] le)
  below_put high (e ∷ es) le = ⊎_elim
      (λ (lt : k < e.0). below_le high e es (omega arith) ∙ sym (ap (below high) (put_less e es lt) ∙ below_le high (k, v) (e ∷ es) le))
      (⊎_elim
      (λ (is : k ≡ e.0). below_le high e es (omega (arith, is)) ∙ sym (ap (below high) (put_same e es is) ∙ below_le high (e.0, v) es (omega (arith, is))))
      (λ (gt : e.0 < k). ⊎_elim
      (λ (lt : e.0 < high). below_lt high e es lt ∙ ap (λ (t : Records). e ∷ t) (below_put high es le) ∙ sym (ap (below high) (put_more e es gt) ∙ below_lt high e (put es) lt))
      (λ (ge : high ≤ e.0). below_le high e es ge ∙ sym (ap (below high) (put_more e es gt) ∙ below_le high e (put es) ge))
      (cases_lt e.0 high)))
      (three k e.0)

  part_put : (low high : ℕ) (es : Records) → (k < low) ⊎ (high ≤ k) → part low high es ≡ part low high (put es)
  part_put low high [] out = ⊎_elim
      (λ (lt : k < low). sym (ap (below high) (rest_lt low (k, v) [] lt)))
      (λ (le : high ≤ k). ⊎_elim (λ (lt : k < low). sym (ap (below high) (rest_lt low (k, v) [] lt))) (λ (ge : low ≤ k). sym (ap (below high) (rest_le low (k, v) [] ge) ∙ below_le high (k, v) [] le)) (cases_lt k low))
      out
  part_put low high (e ∷ es) out = ⊎_elim
      (λ (lt : k < e.0). ⊎_elim
      (λ (under : k < low). sym (ap (part low high) (put_less e es lt) ∙ ap (below high) (rest_lt low (k, v) (e ∷ es) under)))
      (λ (ge : low ≤ k).
      let le : high ≤ k = ⊎_elim (λ (less : k < low). absurd (omega arith)) (λ (le : high ≤ k). le) out in
      ap (below high) (rest_le low e es (omega arith)) ∙ below_le high e es (omega arith) ∙ sym (ap (part low high) (put_less e es lt) ∙ ap (below high) (rest_le low (k, v) (e ∷ es) ge) ∙ below_le high (k, v) (e ∷ es) le))
      (cases_lt k low))
      (⊎_elim
      (λ (is : k ≡ e.0). ⊎_elim
      (λ (under : k < low). ap (below high) (rest_lt low e es (omega (arith, is))) ∙ sym (ap (part low high) (put_same e es is) ∙ ap (below high) (rest_lt low (e.0, v) es (omega (arith, is)))))
      (λ (ge : low ≤ k).
      let le : high ≤ k = ⊎_elim (λ (less : k < low). absurd (omega arith)) (λ (le : high ≤ k). le) out in
      ap (below high) (rest_le low e es (omega (arith, is))) ∙ below_le high e es (omega (arith, is)) ∙ sym (ap (part low high) (put_same e es is) ∙ ap (below high) (rest_le low (e.0, v) es (omega (arith, is))) ∙ below_le high (e.0, v) es (omega (arith, is))))
      (cases_lt k low))
      (λ (gt : e.0 < k). ⊎_elim
      (λ (under : e.0 < low). ap (below high) (rest_lt low e es under) ∙ part_put low high es out ∙ sym (ap (part low high) (put_more e es gt) ∙ ap (below high) (rest_lt low e (put es) under)))
      (λ (ge : low ≤ e.0).
      let le : high ≤ k = ⊎_elim (λ (less : k < low). absurd (omega arith)) (λ (le : high ≤ k). le) out in
      ap (below high) (rest_le low e es ge) ∙ below_put high (e ∷ es) le ∙ ap (below high) (put_more e es gt) ∙ sym (ap (part low high) (put_more e es gt) ∙ ap (below high) (rest_le low e (put es) ge)))
      (cases_lt e.0 low)))
      (three k e.0)

module _ (k : ℕ) where
  abbrev taken : Records → Records
  taken es = remove_entry (is_at (nat_cmp k)) es

  taken_here : (e : ℕ × Record) (es : Records) → k ≡ e.0 → taken (e ∷ es) ≡ es
  taken_here e es is = ap (λ o. cond (is_eq o) es (e ∷ taken es)) (sym (nat_cmp_is k e.0 Equal is))

  taken_later : (e : ℕ × Record) (es : Records) → e.0 < k → taken (e ∷ es) ≡ e ∷ taken es
  taken_later e es lt = ap (λ o. cond (is_eq o) es (e ∷ taken es)) (sym (nat_cmp_is k e.0 Greater lt))

  taken_before : (e : ℕ × Record) (es : Records) → k < e.0 → taken (e ∷ es) ≡ e ∷ taken es
  taken_before e es lt = ap (λ o. cond (is_eq o) es (e ∷ taken es)) (sym (nat_cmp_is k e.0 Less lt))

  taken_none : (low : ℕ) (es : Records) → k ≤ low → AllByRecursion (λ y. nat_cmp low y ≡ Less) (keys_of es) → taken es ≡ es
  taken_none low [] le h = refl
  taken_none low (e ∷ es) le h = let up = less_lt low e.0 h.0 in taken_before e es (omega arith) ∙ ap (λ (t : Records). e ∷ t) (taken_none low es le h.1)

  none_under : (high : ℕ) (es : Records) → high ≤ k → AllByRecursion (λ y. nat_cmp k y ≡ Less) (keys_of es) → below high es ≡ []
  none_under high [] le h = refl
  none_under high (e ∷ es) le h = let up = less_lt k e.0 h.0 in below_le high e es (omega arith)

  below_taken : (high : ℕ) (es : Records) → high ≤ k → IsStrictlySortedBy nat_cmp (keys_of es) → below high es ≡ below high (taken es)
  below_taken high [] le s = refl
  below_taken high (e ∷ es) le s = ⊎_elim
      (λ (lt : k < e.0). sym (ap (below high) (taken_before e es lt ∙ ap (λ (t : Records). e ∷ t) (taken_none e.0 es (omega arith) (sorted_head nat_cmp e.0 (keys_of es) s)))))
      (⊎_elim
      (λ (is : k ≡ e.0). below_le high e es (omega (arith, is)) ∙ sym (ap (below high) (taken_here e es is) ∙ none_under high es le (subst (λ x. AllByRecursion (λ y. nat_cmp x y ≡ Less) (keys_of es)) (sym is) (sorted_head nat_cmp e.0 (keys_of es) s))))
      (λ (gt : e.0 < k). ⊎_elim
      (λ (lt : e.0 < high). below_lt high e es lt ∙ ap (λ (t : Records). e ∷ t) (below_taken high es le (sorted_tail nat_cmp e.0 (keys_of es) s)) ∙ sym (ap (below high) (taken_later e es gt) ∙ below_lt high e (taken es) lt))
      (λ (ge : high ≤ e.0). below_le high e es ge ∙ sym (ap (below high) (taken_later e es gt) ∙ below_le high e (taken es) ge))
      (cases_lt e.0 high)))
      (three k e.0)

  rest_above : (low high : ℕ) (es : Records) → low ≤ k → high ≤ k → AllByRecursion (λ y. nat_cmp k y ≡ Less) (keys_of es) → part low high es ≡ []
  rest_above low high [] le le2 h = refl
  rest_above low high (e ∷ es) le le2 h = let up = less_lt k e.0 h.0 in ap (below high) (rest_le low e es (omega arith)) ∙ below_le high e es (omega arith)

  part_taken : (low high : ℕ) (es : Records) → IsStrictlySortedBy nat_cmp (keys_of es) → (k < low) ⊎ (high ≤ k) → part low high es ≡ part low high (taken es)
  part_taken low high [] s out = refl
  part_taken low high (e ∷ es) s out = ⊎_elim
      (λ (lt : k < e.0). sym (ap (part low high) (taken_before e es lt ∙ ap (λ (t : Records). e ∷ t) (taken_none e.0 es (omega arith) (sorted_head nat_cmp e.0 (keys_of es) s)))))
      (⊎_elim
      (λ (is : k ≡ e.0). ⊎_elim
      (λ (under : k < low). ap (below high) (rest_lt low e es (omega (arith, is))) ∙ sym (ap (part low high) (taken_here e es is)))
      (λ (ge : low ≤ k).
      let le : high ≤ k = ⊎_elim (λ (less : k < low). absurd (omega arith)) (λ (le : high ≤ k). le) out in
      ap (below high) (rest_le low e es (omega (arith, is))) ∙ below_le high e es (omega (arith, is)) ∙ sym (ap (part low high) (taken_here e es is) ∙ rest_above low high es ge le (subst (λ x. AllByRecursion (λ y. nat_cmp x y ≡ Less) (keys_of es)) (sym is) (sorted_head nat_cmp e.0 (keys_of es) s))))
      (cases_lt k low))
      (λ (gt : e.0 < k). ⊎_elim
      (λ (under : e.0 < low). ap (below high) (rest_lt low e es under) ∙ part_taken low high es (sorted_tail nat_cmp e.0 (keys_of es) s) out ∙ sym (ap (part low high) (taken_later e es gt) ∙ ap (below high) (rest_lt low e (taken es) under)))
      (λ (ge : low ≤ e.0).
      let le : high ≤ k = ⊎_elim (λ (less : k < low). absurd (omega arith)) (λ (le : high ≤ k). le) out in
      ap (below high) (rest_le low e es ge) ∙ below_taken high (e ∷ es) le s ∙ ap (below high) (taken_later e es gt) ∙ sym (ap (part low high) (taken_later e es gt) ∙ ap (below high) (rest_le low e (taken es) ge)))
      (cases_lt e.0 low)))
      (three k e.0)

at_key : (P : ℕ → Type 0) (keys : List ℕ) (k : ℕ) → Contains keys k → All P keys → P k
at_key P keys k there all = subst P there.2 (all there.0 k there.1)

pub ChangesByKey-holds : ChangesByKey
ChangesByKey-holds = record {
  same = λ keys es low high out. refl;
  puts = λ keys es k v there low high out. part_put k v low high es (at_key (λ x. (x < low) ⊎ (high ≤ x)) keys k there out);
  removes = λ keys es k s there low high out. part_taken k low high es s (at_key (λ x. (x < low) ⊎ (high ≤ x)) keys k there out);
  joined = λ keys a b c one two low high out. one low high out ∙ two low high out;
}

below_all : (high : ℕ) (es : Records) → All (λ k. k < high) (keys_of es) → below high es ≡ es
below_all high [] all = refl
below_all high (e ∷ es) all = below_lt high e es (All-head (λ k. k < high) e.0 (keys_of es) all) ∙ ap (λ (t : Records). e ∷ t) (below_all high es (All-tail (λ k. k < high) e.0 (keys_of es) all))

pub KeysAreNumbers-holds : KeysAreNumbers
KeysAreNumbers-holds es all = ap (below (2 ^ 64)) (rest_zero es) ∙ below_all (2 ^ 64) es all
