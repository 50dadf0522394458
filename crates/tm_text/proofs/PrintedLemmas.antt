-- Printed words read as what was printed.
use Rattle.std.proofs.Common.{◌≡◌, ◌≢◌, ℕ, zero, suc, ◌+◌, ◌/◌, ◌%◌, ◌^◌, ◌==◌, ◌<◌, ◌≤◌, ◌&&◌, Bool, true, false, cond, if◌then◌else◌, List, [], ◌∷◌, ◌++◌, Some, length, map, filter, refl, sym, ap, ◌∙◌, arith, true≢false, subst, append_assoc, append-nil, nat_lt, lit<, codes, All, length-append, get_or, nat_eq, IsTrue, ◌⊎◌, inl, inr}
use Rattle.std.specs.List.{flat_map, starts_with}
use Rattle.std.specs.Str.{IsUtf8, encode_utf8_all}
use Rattle.std.specs.Char.{encode_utf8, IsScalar}
use lib.Utf8.{scalar, scalars}
use Rattle.std.specs.Option.{option_map}
use Rattle.std.specs.Int.{w128, to_be_bytes, from_be_bytes, bytes_high_first, byte_at}
use Rattle.std.proofs.lemmas.List.Elements.{All-nil, All-cons, All-append, All-head, All-tail}
use Rattle.std.proofs.lemmas.List.Splits.{slice_split_none, slice_split_at}
use Rattle.std.proofs.lemmas.Bool.Decides.{nat_tests}
use Rattle.percent_encoding.specs.Percent.{percent_decode}
use Rattle.uuid.specs.Text.{lower}
use Rattle.uuid.proofs.RoundTrips.{parses_hyphenated}
use Rattle.uuid.proofs.OrderLemmas.{from_be_bytes-to_be_bytes_16}
use Rattle.tm_base.specs.Days.{moment_text, last_moment}
use Rattle.tm_base.specs.IsName.{IsName}
use Rattle.tm_reply.specs.Escapes.{printed_byte, printed_word, printed_path, printed_id, is_escaped, upper_digit}
use Rattle.tm_reply.specs.Rows.{machine_path, snapshot_path}
use Rattle.tm_reply.proofs.EscapeLemmas.{percent_decode-printed_word}
use Rattle.tm_text.specs.Pieces.{cut, pieces}
use Rattle.tm_text.specs.Words.{IsNameWord, IsDate, IsId, AreNames, IsPath, IsWhich, IsStorePathParts, IsStorePath, IsSnapshot}
use Rattle.tm_text.specs.declared.place.Which.TheVariants as which

-- P holds of each byte
pub record Every (P : ℕ → Type 0) (bytes : List ℕ) : Type 0 where
  pub all : All P bytes

module _ {P : ℕ → Type 0} where
  pub none : Every P []
  none = record { all = All-nil P }

  pub more : {b : ℕ} {bytes : List ℕ} → P b → Every P bytes → Every P (b ∷ bytes)
  more {b} {bytes} here rest = record { all = All-cons P b bytes here rest.all }

  pub joined : {a b : List ℕ} → Every P a → Every P b → Every P (a ++ b)
  joined {a} {b} p q = record { all = All-append P a b p.all q.all }

  pub each : ((b : ℕ) → P b) → (bytes : List ℕ) → Every P bytes
  each all bytes = record { all = λ k d _. all (get_or bytes k d) }

  every_if : (t : Bool) (x y : List ℕ) → (t ≡ true → Every P x) → (t ≡ false → Every P y) → Every P (cond t x y)
  every_if true x y p q = p refl
  every_if false x y p q = q refl

pub weaker : {P Q : ℕ → Type 0} {bytes : List ℕ} → ((b : ℕ) → P b → Q b) → Every P bytes → Every Q bytes
weaker {P} {Q} {bytes} step p = record { all = λ k d below. step (get_or bytes k d) (p.all k d below) }

and_right : (a b : Bool) → (a && b) ≡ true → b ≡ true
and_right true b e = e
and_right false b e = absurd (true≢false (sym e))

and_left : (a b : Bool) → (a && b) ≡ true → a ≡ true
and_left true b e = refl
and_left false b e = e

above_if : (t : Bool) (x y : ℕ) → 0x2F < x → 0x2F < y → 0x2F < (if t then x else y)
above_if true x y p q = p
above_if false x y p q = q

-- UTF-8 is bytes

encode_bytes : (c : ℕ) → c < 1_114_112 → Every (λ b. b < 256) (encode_utf8 c)
unfolding encode_utf8
encode_bytes c small =
    let next : (d : ℕ) → 128 + d % 64 < 256 = λ d. omega arith in
    every_if (nat_lt c 128) _ _ (λ e. more (grind (arith, nat_tests)) none)
    (λ _. every_if (nat_lt c 2048) _ _ (λ e. more (grind (arith, nat_tests)) (more (next c) none))
    (λ _. every_if (nat_lt c 65_536) _ _ (λ e. more (grind (arith, nat_tests)) (more (next (c / 64)) (more (next c) none)))
    (λ _. more (omega arith) (more (next (c / 4096)) (more (next (c / 64)) (more (next c) none))))))

scalar_small : (c : ℕ) → IsScalar c → c < 1_114_112
scalar_small c is = grind (arith, nat_tests)

encode_all_bytes : (cs : List ℕ) → scalars cs ≡ true → Every (λ b. b < 256) (encode_utf8_all cs)
encode_all_bytes [] is = none
encode_all_bytes (c ∷ cs) is =
    joined (encode_bytes c (scalar_small c (and_left (scalar c) (scalars cs) is))) (encode_all_bytes cs (and_right (scalar c) (scalars cs) is))

pub utf8_bytes : (bytes : List ℕ) → IsUtf8 bytes → Every (λ b. b < 256) bytes
utf8_bytes bytes is = subst (λ (t : List ℕ). Every (λ b. b < 256) t) is.1.1 (encode_all_bytes is.0 is.1.0)

-- what is printed

module _ {P : ℕ → Type 0} (percent : P 0x25) (digit : (d : ℕ) → P (upper_digit d)) where
  byte_as : (b : ℕ) (escaped : Bool) → is_escaped b ≡ escaped → (is_escaped b ≡ false → P b)
      → Every P (if escaped then 0x25 ∷ upper_digit (b / 16) ∷ upper_digit (b % 16) ∷ [] else b ∷ [])
  byte_as b true is kept = more percent (more (digit (b / 16)) (more (digit (b % 16)) none))
  byte_as b false is kept = more (kept is) none

  every_printed : (bytes : List ℕ) → Every (λ b. is_escaped b ≡ false → P b) bytes → Every P (printed_word bytes)
  unfolding printed_word
  every_printed [] kept = none
  every_printed (b ∷ bytes) kept =
      joined (byte_as b (is_escaped b) refl (All-head (λ b. is_escaped b ≡ false → P b) b bytes kept.all))
      (every_printed bytes (record { all = All-tail (λ b. is_escaped b ≡ false → P b) b bytes kept.all }))

-- a digit of an escape is no blank and no `/`
digit_above : (d : ℕ) → 0x2F < upper_digit d
digit_above d = above_if (nat_lt d 10) _ _ (omega arith) (omega arith)

kept_above : (b : ℕ) → is_escaped b ≡ false → 0x20 < b
kept_above b kept = grind (arith, nat_tests)

-- a printed word has no blank and no end of line
pub plain_printed : (bytes : List ℕ) → Every (λ b. 0x20 < b) (printed_word bytes)
plain_printed bytes =
    every_printed (lit< tt) (λ d. let above = digit_above d in let high : 0x20 < upper_digit d = omega arith in high) bytes (each kept_above bytes)

-- nor a `/`, where the bytes have none
pub slashless_printed : (bytes : List ℕ) → Every (λ b. b ≢ 0x2F) bytes → Every (λ b. b ≢ 0x2F) (printed_word bytes)
slashless_printed bytes p =
    every_printed (λ e. let no : ⊥ = cc in no)
    (λ d e. let above = digit_above d in let no : ⊥ = omega arith in no) bytes (weaker (λ b no_slash kept. no_slash) p)

some_byte : (b : ℕ) (escaped : Bool) → 0 < length (if escaped then 0x25 ∷ upper_digit (b / 16) ∷ upper_digit (b % 16) ∷ [] else b ∷ [])
some_byte b true = lit< tt
some_byte b false = lit< tt

pub some_printed : (bytes : List ℕ) → 1 ≤ length bytes → 0 < length (printed_word bytes)
unfolding printed_word
some_printed [] some = absurd (omega arith)
some_printed (b ∷ bytes) some =
    omega (arith, some_byte b (is_escaped b), length-append (printed_byte b) (flat_map printed_byte bytes))

-- a name

pub name_reads : (name : List ℕ) → IsName name → IsNameWord (printed_word name) name
unfolding IsNameWord
name_reads name is = (sym (percent_decode-printed_word name (utf8_bytes name is.text).all), is)

-- a path

unequal : (b at : ℕ) → b ≢ at → (b == at) ≡ false
unequal b at differ = grind (arith, nat_tests)

-- the words, each after a `/`
unfoldable pub slashed : List (List ℕ) → List ℕ
slashed words = flat_map (λ word. 0x2F ∷ word) words

-- words that stand in a path
pub data AreParts : List (List ℕ) → Type 0 where
  no_part : AreParts []
  part : {word : List ℕ} {words : List (List ℕ)} → 0 < length word → Every (λ b. (b == 0x2F) ≡ false) word → AreParts words → AreParts (word ∷ words)

cut_slashed : (word : List ℕ) (words : List (List ℕ)) → Every (λ b. (b == 0x2F) ≡ false) word → AreParts words
    → cut 0x2F (word ++ slashed words) ≡ word ∷ words
unfolding slashed
cut_slashed word [] lacks no_part = rw append-nil (slice_split_none (λ b. b == 0x2F) word lacks.all)
cut_slashed word (next ∷ words) lacks (part some more_lacks rest) =
    slice_split_at (λ b. b == 0x2F) word 0x2F (next ++ slashed words) lacks.all refl
    ∙ ap (λ (parts : List (List ℕ)). word ∷ parts) (cut_slashed next words more_lacks rest)

kept_part : (t : Bool) (word : List ℕ) (words : List (List ℕ)) → t ≡ true → cond t (word ∷ words) words ≡ word ∷ words
kept_part true word words e = refl
kept_part false word words e = absurd (true≢false (sym e))

filter_parts : (words : List (List ℕ)) → AreParts words → filter (λ part. nat_lt 0 (length part)) words ≡ words
filter_parts [] no_part = refl
filter_parts (word ∷ words) (part some lacks rest) =
    let full : nat_lt 0 (length word) ≡ true = grind (arith, nat_tests) in
    kept_part (nat_lt 0 (length word)) word _ full ∙ ap (λ (parts : List (List ℕ)). word ∷ parts) (filter_parts words rest)

-- the parts of a path are its words
pub pieces_slashed : (words : List (List ℕ)) → AreParts words → pieces 0x2F (slashed words) ≡ words
unfolding slashed
pieces_slashed [] no_part = refl
pieces_slashed (word ∷ words) (part some lacks rest) =
    ap (λ (parts : List (List ℕ)). filter (λ part. nat_lt 0 (length part)) ([] ∷ parts)) (cut_slashed word words lacks rest)
    ∙ filter_parts (word ∷ words) (part some lacks rest)

name_slashless : (name : List ℕ) → IsName name → Every (λ b. b ≢ 0x2F) name
name_slashless name is = weaker {P = λ b. (b ≢ 0x2F) × (b ≢ 0)} (λ b p. p.0) (record { all = is.plain })

pub name_part : (name : List ℕ) (words : List (List ℕ)) → IsName name → AreParts words → AreParts (printed_word name ∷ words)
name_part name words is rest =
    part (some_printed name is.some) (weaker (λ b differ. unequal b 0x2F differ) (slashless_printed name (name_slashless name is))) rest

pub name_parts : (names : List (List ℕ)) → All IsName names → AreParts (map printed_word names)
name_parts [] is = no_part
name_parts (name ∷ names) is = name_part name _ (All-head IsName name names is) (name_parts names (All-tail IsName name names is))

pub printed_names : (names : List (List ℕ)) → All IsName names → AreNames (map printed_word names) names
printed_names [] is = tt
printed_names (name ∷ names) is = (name_reads name (All-head IsName name names is), printed_names names (All-tail IsName name names is))

slashed-map : (names : List (List ℕ)) → slashed (map printed_word names) ≡ flat_map (λ name. 0x2F ∷ printed_word name) names
unfolding slashed
slashed-map [] = refl
slashed-map (name ∷ names) = ap (λ (t : List ℕ). (0x2F ∷ printed_word name) ++ t) (slashed-map names)

pub begins_with_slash : (text : List ℕ) → IsTrue (starts_with nat_eq (0x2F ∷ text) (codes "/"))
begins_with_slash [] = refl
begins_with_slash (b ∷ text) = refl

pub path_reads : (path : List (List ℕ)) → All IsName path → length path ≤ 64 → IsPath (printed_path path) path
unfolding printed_path IsPath
path_reads [] is short = (refl, tt, short)
path_reads (name ∷ names) is short =
    let words = map printed_word (name ∷ names) in
    let parts : pieces 0x2F (flat_map (λ n. 0x2F ∷ printed_word n) (name ∷ names)) ≡ words =
    ap (pieces 0x2F) (sym (slashed-map (name ∷ names))) ∙ pieces_slashed words (name_parts (name ∷ names) is)
    in (
      begins_with_slash (printed_word name ++ flat_map (λ n. 0x2F ∷ printed_word n) names),
      subst (λ (w : List (List ℕ)). AreNames w (name ∷ names)) (sym parts) (printed_names (name ∷ names) is),
      short,
    )

-- a snapshot

date_byte : (d : ℕ) (rest : List ℕ) → Every (λ b. 0x2F < b ⊎ (b ≡ 45)) rest → Every (λ b. 0x2F < b ⊎ (b ≡ 45)) ((48 + d) ∷ rest)
date_byte d rest p = more (inl (omega arith)) p

dash_byte : (rest : List ℕ) → Every (λ b. 0x2F < b ⊎ (b ≡ 45)) rest → Every (λ b. 0x2F < b ⊎ (b ≡ 45)) (45 ∷ rest)
dash_byte rest p = more (inr refl) p

-- digits and dashes
pub date_bytes : (n : ℕ) → Every (λ b. 0x2F < b ⊎ (b ≡ 45)) (moment_text n)
unfolding moment_text
date_bytes n =
    date_byte _ _ (date_byte _ _ (date_byte _ _ (date_byte _ _ (dash_byte _ (date_byte _ _ (date_byte _ _ (dash_byte _
    (date_byte _ _ (date_byte _ _ (dash_byte _ (date_byte _ _ (date_byte _ _ (date_byte _ _ (date_byte _ _ (date_byte _ _
    (date_byte _ _ none))))))))))))))))

some_date : (n : ℕ) → 0 < length (moment_text n)
unfolding moment_text
some_date n = lit< tt

date_no_slash : (b : ℕ) → 0x2F < b ⊎ (b ≡ 45) → (b == 0x2F) ≡ false
date_no_slash b (inl above) = grind (arith, nat_tests)
date_no_slash b (inr dash) = rw dash refl

top_words : List ℕ → ℕ → List (List ℕ)
top_words machine date = codes "Backups.backupdb" ∷ printed_word machine ∷ moment_text date ∷ []

pub top_decodes : percent_decode (codes "Backups.backupdb") ≡ codes "Backups.backupdb"
unfolding percent_decode
top_decodes = refl

snapshot_path-slashed : (machine : List ℕ) (date : ℕ) → snapshot_path machine date ≡ slashed (top_words machine date)
unfolding snapshot_path machine_path slashed top_words
snapshot_path-slashed machine date =
    append_assoc (codes "/Backups.backupdb/") (printed_word machine) (0x2F ∷ moment_text date)
    ∙ ap (λ (t : List ℕ). codes "/Backups.backupdb/" ++ (printed_word machine ++ 0x2F ∷ t)) (sym (append-nil (moment_text date)))

pub date_part : (n : ℕ) (words : List (List ℕ)) → AreParts words → AreParts (moment_text n ∷ words)
date_part n words rest = part (some_date n) (weaker date_no_slash (date_bytes n)) rest

pub top_part : (words : List (List ℕ)) → AreParts words → AreParts (codes "Backups.backupdb" ∷ words)
top_part words rest =
    part (lit< tt)
    (more refl (more refl (more refl (more refl (more refl (more refl (more refl (more refl (more refl (more refl (more refl (more refl
    (more refl (more refl (more refl (more refl none))))))))))))))))
    rest

pub snapshot_reads : (machine : List ℕ) (date : ℕ) → IsName machine → date ≤ last_moment
    → IsSnapshot (snapshot_path machine date) (record { machine = machine; at = which.At date })
unfolding IsSnapshot IsStorePath IsStorePathParts IsWhich IsDate top_words slashed
snapshot_reads machine date is early =
    let parts : pieces 0x2F (slashed (top_words machine date)) ≡ top_words machine date = pieces_slashed _ (top_part _ (name_part machine _ is (date_part date _ no_part))) in
    subst (λ (w : List ℕ). IsSnapshot w (record { machine = machine; at = which.At date })) (sym (snapshot_path-slashed machine date)) (
      codes "Backups.backupdb",
      printed_word machine ∷ moment_text date ∷ [],
      refl,
      parts,
      top_decodes,
      (printed_word machine, moment_text date, refl, name_reads machine is, (early, refl)),
    )

-- an id

byte_small : (k n : ℕ) → byte_at k n < 256
byte_small zero n = omega arith
byte_small (suc k) n = omega arith

high_bytes : (k n : ℕ) → Every (λ b. b < 256) (bytes_high_first k n)
high_bytes zero n = none
high_bytes (suc k) n = more (byte_small k n) (high_bytes k n)

pub id_reads : (id : ℕ) → id < 2 ^ 128 → IsId (printed_id id) id
unfolding IsId printed_id
id_reads id small =
    let bytes = to_be_bytes w128 id in (
      small,
      ap (option_map (from_be_bytes w128)) (sym (parses_hyphenated lower bytes (inl refl) refl (high_bytes 16 id).all))
          ∙ ap Some (from_be_bytes-to_be_bytes_16 id small),
    )
