-- No word of a reply holds an end of line, and no data line closes a reply.
use Rattle.std.proofs.Common.{◌≡◌, ℕ, zero, suc, ◌+◌, ◌/◌, ◌%◌, ◌==◌, ◌<◌, not, Bool, true, false, List, [], ◌∷◌, ◌++◌, Option, Some, None, refl, sym, ap, ◌∙◌, arith, append_assoc, nat_lt, lit<, codes}
use Rattle.std.specs.List.{flat_map}
use Rattle.std.specs.Fmt.{digit_glyph, digits_onto, digits, decimal}
use Rattle.std.specs.Int.{w128, to_be_bytes}
use Rattle.std.proofs.lemmas.List.Folds.{list_all-append}
use Rattle.std.proofs.lemmas.Bool.{cond_both}
use Rattle.std.proofs.lemmas.Bool.Decides.{nat_tests}
use Rattle.uuid.specs.Text.{by_index, hex_digit, lower, is_hyphen_place, digit_place, nibble}
use Rattle.tm_base.specs.Days.{moment_text}
use Rattle.tm_base.specs.declared.refused.Refused.{Refused}
use Rattle.tm_base.specs.declared.refused.Refused.TheVariants as refused
use Rattle.tm_reply.specs.Escapes.{printed_byte, printed_word, printed_path, printed_id, printed_octal, is_escaped, upper_digit}
use Rattle.tm_reply.specs.Layout.{spaced, line_of}
use Rattle.tm_reply.specs.Rows.{attributes_text, printed_name, kind_word, machine_path, snapshot_path, in_progress_name, row_words}
use Rattle.tm_reply.specs.Closings.{refusal_words, refusal_text, closing_words}
use Rattle.tm_reply.specs.ReplyLaws.{is_unbroken, closes}
use Rattle.tm_reply.specs.declared.row.Attributes.{Attributes}
use Rattle.tm_reply.specs.declared.row.Kind.{Kind}
use Rattle.tm_reply.specs.declared.row.Kind.TheVariants as kind
use Rattle.tm_reply.specs.declared.row.ListedName.{ListedName}
use Rattle.tm_reply.specs.declared.row.ListedName.TheVariants as listed
use Rattle.tm_reply.specs.declared.row.ReplyRow.{ReplyRow}
use Rattle.tm_reply.specs.declared.row.ReplyRow.TheVariants as row

-- a text without an end of line
pub record IsUnbroken (text : List ℕ) : Type 0 where
  pub unbroken : is_unbroken text ≡ true

unbroken_literal : (text : List ℕ) → is_unbroken text ≡ true → IsUnbroken text
unbroken_literal text p = record { unbroken = p }

unbroken_append : (a b : List ℕ) → IsUnbroken a → IsUnbroken b → IsUnbroken (a ++ b)
unbroken_append a b p q = record { unbroken = rw (list_all-append, p.unbroken, q.unbroken) refl }

-- a byte above the end of a line
abbrev IsAbove : ℕ → Type 0
IsAbove b = 0x0A < b

above_end : (b : ℕ) → IsAbove b → not (b == 0x0A) ≡ true
above_end b above = grind (arith, nat_tests)

unbroken_more : (b : ℕ) (text : List ℕ) → IsAbove b → IsUnbroken text → IsUnbroken (b ∷ text)
unbroken_more b text above p = record { unbroken = rw (above_end b above, p.unbroken) refl }

unbroken_none : IsUnbroken []
unbroken_none = unbroken_literal [] refl

-- numbers

above_glyph : (upper : Bool) (d : ℕ) → IsAbove (digit_glyph upper d)
above_glyph upper d =
    cond_both (nat_lt d 10) _ _ IsAbove (λ _. omega arith) (λ _. cond_both upper _ _ IsAbove (λ _. omega arith) (λ _. omega arith))

unbroken_digits_onto : (k base : ℕ) (upper : Bool) (n : ℕ) (acc : List ℕ) → IsUnbroken acc → IsUnbroken (digits_onto k base upper n acc)
unbroken_digits_onto zero base upper n acc p = p
unbroken_digits_onto (suc k) base upper n acc p =
    let more = unbroken_more (digit_glyph upper (n % base)) acc (above_glyph upper (n % base)) p in
    cond_both (n / base == 0) _ _ IsUnbroken (λ _. more) (λ _. unbroken_digits_onto k base upper (n / base) _ more)

unbroken_decimal : (n : ℕ) → IsUnbroken (decimal n)
unfolding digits
unbroken_decimal n = unbroken_digits_onto 64 10 false n [] unbroken_none

unbroken_octal : (n : ℕ) → IsUnbroken (printed_octal n)
unfolding printed_octal digits
unbroken_octal n = unbroken_digits_onto 64 8 false n [] unbroken_none

-- words and paths

above_upper : (d : ℕ) → IsAbove (upper_digit d)
above_upper d = cond_both (nat_lt d 10) _ _ IsAbove (λ _. omega arith) (λ _. omega arith)

above_kept : (b : ℕ) → is_escaped b ≡ false → IsAbove b
above_kept b kept = grind (arith, nat_tests)

unbroken_byte : (b : ℕ) → IsUnbroken (printed_byte b)
unbroken_byte b =
    cond_both (is_escaped b) _ _ IsUnbroken
    (λ _. unbroken_more 0x25 _ (lit< tt)
    (unbroken_more _ _ (above_upper (b / 16)) (unbroken_more _ _ (above_upper (b % 16)) unbroken_none)))
    (λ kept. unbroken_more b [] (above_kept b kept) unbroken_none)

unbroken_word : (bytes : List ℕ) → IsUnbroken (printed_word bytes)
unfolding printed_word
unbroken_word [] = unbroken_none
unbroken_word (b ∷ bytes) = unbroken_append (printed_byte b) _ (unbroken_byte b) (unbroken_word bytes)

unbroken_names : (names : List (List ℕ)) → IsUnbroken (flat_map (λ n. 0x2F ∷ printed_word n) names)
unbroken_names [] = unbroken_none
unbroken_names (name ∷ names) =
    unbroken_append (0x2F ∷ printed_word name) _ (unbroken_more 0x2F _ (lit< tt) (unbroken_word name)) (unbroken_names names)

unbroken_path : (path : List (List ℕ)) → IsUnbroken (printed_path path)
unfolding printed_path
unbroken_path [] = unbroken_literal _ refl
unbroken_path (name ∷ names) = unbroken_names (name ∷ names)

-- dates and ids

unbroken_date : (n : ℕ) → IsUnbroken (moment_text n)
unfolding moment_text
unbroken_date n =
    let digit : (d : ℕ) (rest : List ℕ) → IsUnbroken rest → IsUnbroken ((48 + d) ∷ rest) =
    λ d rest p. unbroken_more (48 + d) rest (omega arith) p in
    let dash : (rest : List ℕ) → IsUnbroken rest → IsUnbroken (45 ∷ rest) = λ rest p. unbroken_more 45 rest (lit< tt) p in
    digit _ _ (digit _ _ (digit _ _ (digit _ _ (dash _ (digit _ _ (digit _ _ (dash _ (digit _ _ (digit _ _ (dash _
    (digit _ _ (digit _ _ (digit _ _ (digit _ _ (digit _ _ (digit _ _ unbroken_none))))))))))))))))

unbroken_by_index : (n : ℕ) (f : ℕ → ℕ) → ((k : ℕ) → IsAbove (f k)) → IsUnbroken (by_index n f)
unfolding by_index
unbroken_by_index zero f above = unbroken_none
unbroken_by_index (suc n) f above =
    unbroken_append (by_index n f) _ (unbroken_by_index n f above) (unbroken_more (f n) [] (above n) unbroken_none)

above_hex : (d : ℕ) → IsAbove (hex_digit lower d)
above_hex d = cond_both (nat_lt d 10) _ _ IsAbove (λ _. omega arith) (λ _. omega arith)

unbroken_id : (id : ℕ) → IsUnbroken (printed_id id)
unfolding printed_id
unbroken_id id =
    let xs = to_be_bytes w128 id in
    unbroken_by_index 36 _
    (λ k. cond_both (is_hyphen_place k) _ _ IsAbove (λ _. lit< tt) (λ _. above_hex (nibble xs (digit_place k))))

-- words with a blank between them

abbrev pub AllUnbroken : List (List ℕ) → Type 0
AllUnbroken [] = Unit {0}
AllUnbroken (word ∷ words) = IsUnbroken word × AllUnbroken words

pub unbroken_spaced : (words : List (List ℕ)) → AllUnbroken words → IsUnbroken (spaced words)
unbroken_spaced [] p = unbroken_none
unbroken_spaced (word ∷ []) p = p.0
unbroken_spaced (word ∷ next ∷ words) p =
    unbroken_append word _ p.0 (unbroken_more 0x20 _ (lit< tt) (unbroken_spaced (next ∷ words) p.1))

pub line_of-spaced : (words : List (List ℕ)) → line_of words ≡ spaced words ++ 0x0A ∷ []
line_of-spaced [] = refl
line_of-spaced (word ∷ []) = refl
line_of-spaced (word ∷ next ∷ words) =
    ap (λ (t : List ℕ). word ++ 0x20 ∷ t) (line_of-spaced (next ∷ words)) ∙ sym (append_assoc word (0x20 ∷ spaced (next ∷ words)) (0x0A ∷ []))

-- the words of a data line

-- what a word shows by itself
ruleset printed = (unbroken_decimal, unbroken_octal, unbroken_word, unbroken_path, unbroken_date, unbroken_id, unbroken_literal, refl)

unbroken_attributes : (a : Attributes) → IsUnbroken (attributes_text a)
unfolding attributes_text
unbroken_attributes a =
    unbroken_spaced (printed_octal a.mode ∷ decimal a.uid ∷ decimal a.gid ∷ moment_text a.modified ∷ decimal a.extras ∷ []) (search printed)

unbroken_listed : (name : ListedName) → IsUnbroken (printed_name name)
unfolding printed_name
unbroken_listed (listed.Path path) = unbroken_path path
unbroken_listed (listed.Entry name) = unbroken_word name

unbroken_kind : (k : Kind) → IsUnbroken (kind_word k)
unfolding kind_word
unbroken_kind kind.Folder = unbroken_literal _ refl
unbroken_kind _ = unbroken_literal _ refl

unbroken_machine : (machine : List ℕ) → IsUnbroken (machine_path machine)
unfolding machine_path
unbroken_machine machine = unbroken_append (codes "/Backups.backupdb/") _ (unbroken_literal _ refl) (unbroken_word machine)

unbroken_snapshot : (machine : List ℕ) (date : ℕ) → IsUnbroken (snapshot_path machine date)
unfolding snapshot_path
unbroken_snapshot machine date =
    unbroken_append (machine_path machine) _ (unbroken_machine machine) (unbroken_more 0x2F _ (lit< tt) (unbroken_date date))

unbroken_in_progress : (date : ℕ) → IsUnbroken (in_progress_name date)
unfolding in_progress_name
unbroken_in_progress date = unbroken_append (moment_text date) _ (unbroken_date date) (unbroken_literal _ refl)

-- what a word of a data line shows
ruleset shown = (unbroken_attributes, unbroken_listed, unbroken_kind, unbroken_machine, unbroken_snapshot, unbroken_in_progress, printed)

pub unbroken_row : (r : ReplyRow) → AllUnbroken (row_words r)
unbroken_row (row.Extra name []) = search shown
unbroken_row (row.Contents []) = search shown
unbroken_row _ = search shown

-- a data line closes no reply
pub row_goes_on : (r : ReplyRow) → closes (spaced (row_words r)) ≡ false
unfolding snapshot_path machine_path
row_goes_on (row.Extra name []) = refl
row_goes_on (row.Contents []) = refl
row_goes_on _ = refl

-- the words of a closing line

unbroken_refusal_words : (r : Refused) → AllUnbroken (refusal_words r)
unbroken_refusal_words refused.NoVolume = search printed
unbroken_refusal_words _ = search printed

unbroken_refusal : (r : Refused) → IsUnbroken (refusal_text r)
unfolding refusal_text
unbroken_refusal r = unbroken_spaced (refusal_words r) (unbroken_refusal_words r)

pub unbroken_closing : (r : Option Refused) → AllUnbroken (closing_words r)
unbroken_closing None = search printed
unbroken_closing (Some r) = search (unbroken_refusal, printed)

-- a closing line closes one
pub closing_closes : (r : Option Refused) → closes (spaced (closing_words r)) ≡ true
closing_closes None = refl
closing_closes (Some r) = refl
