-- One record more.
use Rattle.std.proofs.Common.{◌≡◌, ℕ, ◌+◌, ◌<◌, List, [], ◌∷◌, ◌++◌, length, drop, Option, Some, refl, sym, ◌∙◌, ap, arith, append_assoc, length-append}
use Rattle.std.specs.Ordering.{nat_cmp, match_ordering}
use Rattle.std.specs.Cmp.{nat_cmp_is}
use Rattle.std.specs.declared.cmp.Ordering.TheVariants.{Greater}
use Rattle.std.specs.BTreeMap.{insert_entry}
use Rattle.tm_codec.specs.Places.{IsTextAt}
use Rattle.tm_records.specs.declared.record.Record.{Record}
use Rattle.tm_records.specs.Records.{Records}
use Rattle.tm_table.specs.Text.{record_text, table_text}
use Rattle.tm_table.specs.Good.{IsAbove, IsRecord, AreRecords, last_key}
use Rattle.tm_table.proofs.Writing.{table-append, table-one}

-- a key above the last is above those before
below : (total low k : ℕ) (es : Records) → AreRecords total (Some low) es → IsAbove (last_key (Some low) es) k → low < k
below total low k [] are above = above
below total low k (e ∷ es) are above = omega (arith, are.0.above, below total e.0 k es are.1 above)

pub insert_last : (total : ℕ) (before : Option ℕ) (es : Records) (e : ℕ × Record) → AreRecords total before es → IsRecord total (last_key before es) e → insert_entry nat_cmp es e.0 e.1 ≡ es ++ e ∷ []
insert_last total before [] e are is = refl
insert_last total before (d ∷ es) e are is =
    ap (λ r. match_ordering r ((e.0, e.1) ∷ d ∷ es) ((d.0, e.1) ∷ es) (d ∷ insert_entry nat_cmp es e.0 e.1)) (sym (nat_cmp_is e.0 d.0 Greater (below total d.0 e.0 es are.1 is.above)))
    ∙ ap (λ (t : Records). d ∷ t) (insert_last total (Some d.0) es e are.1 is)

pub are_push : (total : ℕ) (before : Option ℕ) (es : Records) (e : ℕ × Record) → AreRecords total before es → IsRecord total (last_key before es) e → AreRecords total before (es ++ e ∷ [])
are_push total before [] e are is = (is, tt)
are_push total before (d ∷ es) e are is = (are.0, are_push total (Some d.0) es e are.1 is)

pub last_push : (before : Option ℕ) (es : Records) (e : ℕ × Record) → last_key before (es ++ e ∷ []) ≡ Some e.0
last_push before [] e = refl
last_push before (d ∷ es) e = last_push (Some d.0) es e

pub length_push : (es : Records) (e : ℕ × Record) → length (table_text (es ++ e ∷ [])) ≡ length (table_text es) + length (record_text e)
length_push es e = ap length (table-append es (e ∷ [])) ∙ length-append (table_text es) (table_text (e ∷ [])) ∙ ap (λ t. length (table_text es) + length t) (table-one e)

pub text_push : (es : Records) (e : ℕ × Record) (text : List ℕ) (at : ℕ) → at ≡ length (table_text es) → text ≡ table_text es ++ drop at text → IsTextAt (record_text e) at text
    → text ≡ table_text (es ++ e ∷ []) ++ drop (at + length (record_text e)) text
text_push es e text at reaches is stands =
    is ∙ ap (λ r. table_text es ++ r) stands ∙ sym (append_assoc (table_text es) (record_text e) (drop (at + length (record_text e)) text))
    ∙ ap (λ t. t ++ drop (at + length (record_text e)) text) (ap (λ r. table_text es ++ r) (sym (table-one e)) ∙ sym (table-append es (e ∷ [])))

-- before the first record
pub no_text : (es : Records) (text : List ℕ) → es ≡ [] → text ≡ table_text es ++ text
unfolding table_text
no_text es text none = sym (ap (λ (rs : Records). table_text rs ++ text) none)

pub no_length : (es : Records) → es ≡ [] → 0 ≡ length (table_text es)
unfolding table_text
no_length es none = sym (ap (λ (rs : Records). length (table_text rs)) none)
