-- The text of one record more.
use Rattle.std.proofs.Common.{◌≡◌, ℕ, List, [], ◌∷◌, ◌++◌, length, append_assoc, append-nil, map, sym, ◌∙◌, ap, Bor, Bool, true, false, not, ◌==◌, cond}
use Rattle.std.proofs.lemmas.List.{map-append}
use Rattle.std.proofs.lemmas.List.Elements.{filter-append}
use Rattle.std.specs.Map.Iter.{deref_pair}
use Rattle.std.specs.List.{filter, list_any}
use Rattle.std.proofs.lemmas.List.Concat.{flat_map-append}
use Rattle.tm_codec.specs.Fields.{u32_text, u64_text}
use Rattle.tm_records.specs.declared.record.Record.{Record}
use Rattle.tm_records.specs.Records.{Records}
use Rattle.tm_table.specs.Text.{numbers, meta_text, record_text, table_text}

-- the records at none of these keys
abbrev pub is_left : List ℕ → ℕ × Record → Bool
is_left keys e = not (list_any (λ k. k == e.0) keys)

abbrev pub without_keys : List ℕ → Records → Records
without_keys keys es = filter (is_left keys) es

pub table-none : (keys : List ℕ) (text : List ℕ) → text ≡ [] → text ≡ table_text (without_keys keys [])
unfolding table_text
table-none keys text is = is

pub table-append : (a b : Records) → table_text (a ++ b) ≡ table_text a ++ table_text b
unfolding table_text
table-append a b = flat_map-append record_text a b

pub table-one : (e : ℕ × Record) → table_text (e ∷ []) ≡ record_text e
unfolding table_text
table-one e = append-nil (record_text e)

pub filter-one : (p : ℕ × Record → Bool) (e : ℕ × Record) (b : Bool) → p e ≡ b → filter p (e ∷ []) ≡ filter (λ (x : ℕ × Record). b) (e ∷ [])
filter-one p e b is = ap (λ c. cond c (e ∷ []) []) is

pub left-push : (keys : List ℕ) (es : List (Bor ℕ × Bor Record)) (e : Bor ℕ × Bor Record) → without_keys keys (map deref_pair (es ++ e ∷ [])) ≡ without_keys keys (map deref_pair es) ++ without_keys keys ((e.0.now, e.1.now) ∷ [])
left-push keys es e = ap (without_keys keys) (map-append deref_pair es (e ∷ [])) ∙ filter-append (is_left keys) (map deref_pair es) ((e.0.now, e.1.now) ∷ [])

pub table-kept : (keys : List ℕ) (es : List (Bor ℕ × Bor Record)) (e : Bor ℕ × Bor Record) (text new : List ℕ) → text ≡ table_text (without_keys keys (map deref_pair es)) → is_left keys (e.0.now, e.1.now) ≡ true
    → new ≡ text ++ record_text (e.0.now, e.1.now) → new ≡ table_text (without_keys keys (map deref_pair (es ++ e ∷ [])))
table-kept keys es e text new so_far stays is =
    is ∙ ap (λ t. t ++ record_text (e.0.now, e.1.now)) so_far ∙ ap (λ t. table_text (without_keys keys (map deref_pair es)) ++ t) (sym (table-one (e.0.now, e.1.now)))
    ∙ sym (table-append (without_keys keys (map deref_pair es)) ((e.0.now, e.1.now) ∷ []))
    ∙ ap table_text (ap (λ r. without_keys keys (map deref_pair es) ++ r) (sym (filter-one (is_left keys) (e.0.now, e.1.now) true stays)) ∙ sym (left-push keys es e))

pub table-skipped : (keys : List ℕ) (es : List (Bor ℕ × Bor Record)) (e : Bor ℕ × Bor Record) (text : List ℕ) → text ≡ table_text (without_keys keys (map deref_pair es)) → is_left keys (e.0.now, e.1.now) ≡ false
    → text ≡ table_text (without_keys keys (map deref_pair (es ++ e ∷ [])))
table-skipped keys es e text so_far goes =
    so_far ∙ ap table_text (sym (append-nil (without_keys keys (map deref_pair es))) ∙ ap (λ r. without_keys keys (map deref_pair es) ++ r) (sym (filter-one (is_left keys) (e.0.now, e.1.now) false goes)) ∙ sym (left-push keys es e))

joined : (o a b c d e t1 t2 t3 t4 t5 : List ℕ) → t1 ≡ o ++ a → t2 ≡ t1 ++ b → t3 ≡ t2 ++ c → t4 ≡ t3 ++ d → t5 ≡ t4 ++ e → t5 ≡ o ++ (a ++ (b ++ c) ++ d ++ e)
joined o a b c d e t1 t2 t3 t4 t5 e1 e2 e3 e4 e5 =
    e5 ∙ ap (λ t. t ++ e) (e4 ∙ ap (λ t. t ++ d) (e3 ∙ ap (λ t. t ++ c) (e2 ∙ ap (λ t. t ++ b) e1)))
    ∙ ap (λ t. t ++ c ++ d ++ e) (append_assoc o a b) ∙ ap (λ t. t ++ d ++ e) (append_assoc o (a ++ b) c ∙ ap (λ x. o ++ x) (append_assoc a b c)) ∙ ap (λ t. t ++ e) (append_assoc o (a ++ (b ++ c)) d) ∙ append_assoc o (a ++ (b ++ c) ++ d) e

pub record_joined : (key n : ℕ) (r : Record) (o t1 t2 t3 t4 t5 : List ℕ) → n ≡ length r.meta
    → t1 ≡ o ++ u64_text key → t2 ≡ t1 ++ u32_text n → t3 ≡ t2 ++ r.meta → t4 ≡ t3 ++ u64_text r.length → t5 ≡ t4 ++ numbers r.blocks → t5 ≡ o ++ record_text (key, r)
unfolding record_text meta_text
record_joined key n r o t1 t2 t3 t4 t5 ns e1 e2 e3 e4 e5 =
    joined o (u64_text key) (u32_text n) r.meta (u64_text r.length) (numbers r.blocks) t1 t2 t3 t4 t5 e1 e2 e3 e4 e5
    ∙ ap (λ m. o ++ (u64_text key ++ (u32_text m ++ r.meta) ++ u64_text r.length ++ numbers r.blocks)) ns
