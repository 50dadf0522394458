-- A text is that of one list of records.
use Rattle.std.proofs.Common.{◌≡◌, ℕ, suc, ◌+◌, ◌/◌, ◌<◌, ◌≤◌, ◌^◌, List, [], ◌∷◌, ◌++◌, length, drop, take, Option, Some, None, refl, sym, ◌∙◌, ap, subst, arith, append_assoc, append-nil, length-append, length-drop}
use Rattle.std.specs.List.{All}
use Rattle.std.proofs.lemmas.List.{drop_at, take_at}
use Rattle.std.proofs.lemmas.List.Concat.{flat_map-cons}
use Rattle.tm_codec.specs.Fields.{u32_text, u64_text}
use Rattle.tm_codec.proofs.Fields.{apart-u32, apart-u64}
use Rattle.tm_records.specs.declared.record.Record.{Record}
use Rattle.tm_records.specs.Records.{Records}
use Rattle.tm_table.specs.Text.{numbers, meta_text, record_text, table_text}
use Rattle.tm_table.specs.Good.{IsRecord, AreRecords, last_key}
use Rattle.tm_table.specs.Breaks.{BreaksAt}
use Rattle.tm_table.proofs.Standing.{length-record_text, stands_from}

parted : (a b x y : List ℕ) → length a ≡ length b → a ++ x ≡ b ++ y → (a ≡ b) × (x ≡ y)
parted a b x y len same = (
  sym (take_at a x (length b) len) ∙ ap (take (length b)) same ∙ take_at b y (length b) refl,
  sym (drop_at a x (length b) len) ∙ ap (drop (length b)) same ∙ drop_at b y (length b) refl,
)

metas_apart : (a b x y : List ℕ) → length a < 2 ^ 32 → length b < 2 ^ 32 → meta_text a ++ x ≡ meta_text b ++ y → (a ≡ b) × (x ≡ y)
unfolding meta_text
metas_apart a b x y small_a small_b same =
    let both = apart-u32 (length a) (length b) (a ++ x) (b ++ y) small_a small_b (sym (append_assoc (u32_text (length a)) a x) ∙ same ∙ append_assoc (u32_text (length b)) b y) in
    parted a b x y both.0 both.1

abbrev Small : List ℕ → Type 0
Small bs = All (λ b. b < 2 ^ 32) bs

cons_is : (a b : ℕ) (xs ys : List ℕ) → a ≡ b → xs ≡ ys → a ∷ xs ≡ b ∷ ys
cons_is a b xs ys p q = λ i. p i ∷ q i

numbers_apart : (a b x y : List ℕ) → length a ≡ length b → Small a → Small b → numbers a ++ x ≡ numbers b ++ y → (a ≡ b) × (x ≡ y)
numbers_apart [] [] x y len small_a small_b same = (refl, same)
numbers_apart [] (b ∷ bs) x y len small_a small_b same = absurd (omega arith)
numbers_apart (a ∷ cs) [] x y len small_a small_b same = absurd (omega arith)
numbers_apart (a ∷ cs) (b ∷ bs) x y len small_a small_b same =
    let shift : (c : ℕ) (cs z : List ℕ) → numbers (c ∷ cs) ++ z ≡ u32_text c ++ (numbers cs ++ z) = λ c ds z. ap (λ t. t ++ z) (flat_map-cons u32_text c ds) ∙ append_assoc (u32_text c) (numbers ds) z in
    let first = apart-u32 a b (numbers cs ++ x) (numbers bs ++ y) (small_a 0 0 (omega arith)) (small_b 0 0 (omega arith)) (sym (shift a cs x) ∙ same ∙ shift b bs y) in
    let rest = numbers_apart cs bs x y (omega arith) (λ k d lt. small_a (suc k) d (omega arith)) (λ k d lt. small_b (suc k) d (omega arith)) first.1 in
    (cons_is a b cs bs first.0 rest.0, rest.1)

same_record : (r s : Record) → r.meta ≡ s.meta → r.length ≡ s.length → r.blocks ≡ s.blocks → r ≡ s
same_record r s m l b = λ i. record { meta = m i; length = l i; blocks = b i }

pub no_more : [] ≡ table_text [] ++ []
unfolding table_text
no_more = refl

nothing : (x : List ℕ) → table_text [] ++ x ≡ x
unfolding table_text
nothing x = refl

module _ (total : ℕ) (few : total ≤ 2 ^ 32) where
  small_blocks : (before : Option ℕ) (e : ℕ × Record) → IsRecord total before e → Small e.1.blocks
  small_blocks before e is = λ k d lt. omega (arith, (is.each k d lt).1)

  -- no text of a record begins another's
  one_record : (before : Option ℕ) (e f : ℕ × Record) (x y : List ℕ) → IsRecord total before e → IsRecord total before f → record_text e ++ x ≡ record_text f ++ y → (e ≡ f) × (x ≡ y)
  unfolding record_text
  one_record before e f x y is_e is_f same =
      let shift : (g : ℕ × Record) (z : List ℕ) → record_text g ++ z ≡ u64_text g.0 ++ (meta_text g.1.meta ++ (u64_text g.1.length ++ (numbers g.1.blocks ++ z)))
      = λ g z. append_assoc (u64_text g.0 ++ meta_text g.1.meta ++ u64_text g.1.length) (numbers g.1.blocks) z ∙ append_assoc (u64_text g.0 ++ meta_text g.1.meta) (u64_text g.1.length) (numbers g.1.blocks ++ z)
      ∙ append_assoc (u64_text g.0) (meta_text g.1.meta) (u64_text g.1.length ++ (numbers g.1.blocks ++ z)) in
      let keys = apart-u64 e.0 f.0 _ _ is_e.key is_f.key (sym (shift e x) ∙ same ∙ shift f y) in
      let metas = metas_apart e.1.meta f.1.meta _ _ is_e.meta is_f.meta keys.1 in
      let sizes = apart-u64 e.1.length f.1.length _ _ (omega (arith, is_e.size, few)) (omega (arith, is_f.size, few)) metas.1 in
      let blocks = numbers_apart e.1.blocks f.1.blocks x y (is_e.many ∙ ap (λ n. (n + 4095) / 4096) sizes.0 ∙ sym is_f.many) (small_blocks before e is_e) (small_blocks before f is_f) sizes.1 in
      (λ i. (keys.0 i, same_record e.1 f.1 metas.0 sizes.0 blocks.0 i), blocks.1)

  good_as : (before : Option ℕ) (rs : Records) (e f : ℕ × Record) → e ≡ f → AreRecords total (Some e.0) rs → AreRecords total (Some f.0) rs
  good_as before rs e f same are = subst (λ (g : ℕ × Record). AreRecords total (Some g.0) rs) same are

  split : (r : ℕ × Record) (rs : Records) (x : List ℕ) → table_text (r ∷ rs) ++ x ≡ record_text r ++ (table_text rs ++ x)
  unfolding table_text
  split r rs x = ap (λ t. t ++ x) (flat_map-cons record_text r rs) ∙ append_assoc (record_text r) (table_text rs) x

  no_text : (r : ℕ × Record) (rs : Records) (x : List ℕ) → [] ≡ table_text (r ∷ rs) ++ x → ⊥
  no_text r rs x same = absurd (omega (arith, ap length (same ∙ split r rs x), length-append (record_text r) (table_text rs ++ x), length-record_text r))

  pub one_table : (before : Option ℕ) (a b : Records) → AreRecords total before a → AreRecords total before b → table_text a ++ [] ≡ table_text b ++ [] → a ≡ b
  one_table before [] [] are_a are_b same = refl
  one_table before [] (f ∷ b) are_a are_b same = absurd (no_text f b [] (no_more ∙ same))
  one_table before (e ∷ a) [] are_a are_b same = absurd (no_text e a [] (no_more ∙ sym same))
  one_table before (e ∷ a) (f ∷ b) are_a are_b same =
      let both = one_record before e f (table_text a ++ []) (table_text b ++ []) are_a.0 are_b.0 (sym (split e a []) ∙ same ∙ split f b []) in
      let rest = one_table (Some f.0) a b (good_as before a e f both.0 are_a.1) are_b.1 both.1 in
      λ i. both.0 i ∷ rest i

  -- no record that keeps the rules stands at the front
  abbrev NoneFirst : Option ℕ → List ℕ → Type 0
  NoneFirst before x = (e : ℕ × Record) (tail : List ℕ) → IsRecord total before e → x ≡ record_text e ++ tail → ⊥

  pub or_break : (before : Option ℕ) (a ps : Records) (x : List ℕ) → AreRecords total before a → AreRecords total before ps → table_text a ++ [] ≡ table_text ps ++ x → 0 < length x → NoneFirst (last_key before ps) x → ⊥
  or_break before [] [] x are_a are_p same some none = absurd (omega (arith, ap length (no_more ∙ same ∙ nothing x)))
  or_break before (e ∷ a) [] x are_a are_p same some none = none e (table_text a ++ []) are_a.0 (sym (sym (split e a []) ∙ same ∙ nothing x))
  or_break before [] (p ∷ ps) x are_a are_p same some none = no_text p ps x (no_more ∙ same)
  or_break before (e ∷ a) (p ∷ ps) x are_a are_p same some none =
      let both = one_record before e p (table_text a ++ []) (table_text ps ++ x) are_a.0 are_p.0 (sym (split e a []) ∙ same ∙ split p ps x) in
      or_break (Some p.0) a ps x (good_as before a e p both.0 are_a.1) are_p.1 both.1 some none

  none_as : (before : Option ℕ) (ps : Records) (p q : ℕ × Record) (x : List ℕ) → p ≡ q → NoneFirst (last_key (Some p.0) ps) x → NoneFirst (last_key (Some q.0) ps) x
  none_as before ps p q x same none = subst (λ (g : ℕ × Record). NoneFirst (last_key (Some g.0) ps) x) same none

  long : (r : ℕ × Record) (rs : Records) → length (table_text (r ∷ rs)) ≡ length (record_text r) + length (table_text rs)
  unfolding table_text
  long r rs = ap length (flat_map-cons record_text r rs) ∙ length-append (record_text r) (table_text rs)

  pub one_break : (before : Option ℕ) (ps qs : Records) (x y : List ℕ) → AreRecords total before ps → AreRecords total before qs → table_text ps ++ x ≡ table_text qs ++ y
      → NoneFirst (last_key before ps) x → NoneFirst (last_key before qs) y → length (table_text ps) ≡ length (table_text qs)
  one_break before [] [] x y are_p are_q same none_x none_y = refl
  one_break before (p ∷ ps) [] x y are_p are_q same none_x none_y = absurd (none_y p (table_text ps ++ x) are_p.0 (sym (sym (split p ps x) ∙ same ∙ nothing y)))
  one_break before [] (q ∷ qs) x y are_p are_q same none_x none_y = absurd (none_x q (table_text qs ++ y) are_q.0 (sym (sym (split q qs y) ∙ sym same ∙ nothing x)))
  one_break before (p ∷ ps) (q ∷ qs) x y are_p are_q same none_x none_y =
      let both = one_record before p q (table_text ps ++ x) (table_text qs ++ y) are_p.0 are_q.0 (sym (split p ps x) ∙ same ∙ split q qs y) in
      let rest = one_break (Some q.0) ps qs x y (good_as before ps p q both.0 are_p.1) are_q.1 both.1 (none_as before ps p q x both.0 none_x) none_y in
      omega (arith, rest, long p ps, long q qs, ap (λ (g : ℕ × Record). length (record_text g)) both.0)

  -- in the words of a break
  pub none_first : (text : List ℕ) (offset : ℕ) (b : BreaksAt total text offset) → NoneFirst (last_key None b.records) (drop offset text)
  none_first text offset b = λ e tail is stands. b.none e is (stands_from (record_text e) tail text offset stands)

pub table_is_one : (total : ℕ) (a b : Records) → total ≤ 2 ^ 32 → AreRecords total None a → AreRecords total None b → table_text a ≡ table_text b → a ≡ b
table_is_one total a b few are_a are_b same = one_table total few None a b are_a are_b (ap (λ t. t ++ []) same)

pub table_or_break : (total : ℕ) (records : Records) (offset : ℕ) → total ≤ 2 ^ 32 → AreRecords total None records → BreaksAt total (table_text records) offset → ⊥
table_or_break total records offset few are b =
    or_break total few None records b.records (drop offset (table_text records)) are b.are (append-nil (table_text records) ∙ b.starts) (omega (arith, b.goes_on, length-drop offset (table_text records))) (none_first total few (table_text records) offset b)

pub break_is_one : (total : ℕ) (text : List ℕ) (offset offset2 : ℕ) → total ≤ 2 ^ 32 → BreaksAt total text offset → BreaksAt total text offset2 → offset ≡ offset2
break_is_one total text offset offset2 few b d =
    b.reaches ∙ one_break total few None b.records d.records (drop offset text) (drop offset2 text) b.are d.are (sym b.starts ∙ d.starts) (none_first total few text offset b) (none_first total few text offset2 d) ∙ sym d.reaches
