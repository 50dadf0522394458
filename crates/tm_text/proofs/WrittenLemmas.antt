-- Each line whose values are within their bounds can be written.
use Rattle.std.proofs.Common.{◌≡◌, ℕ, ◌+◌, ◌/◌, ◌%◌, ◌<◌, zero, suc, if◌then◌else◌, ◌≤◌, ◌^◌, ◌==◌, ◌&&◌, ◌⊎◌, inl, inr, Bool, true, false, cond, List, [], ◌∷◌, ◌++◌, All, length, map, filter, nat_lt, slice_index_or, refl, sym, ap, ◌∙◌, subst, true≢false, arith, codes, lit<, lit≤}
use Rattle.std.specs.List.{list_all, flat_map}
use Rattle.std.specs.Char.{digit_value}
use Rattle.std.specs.Int.{w128, to_be_bytes}
use Rattle.std.specs.Fmt.{decimal}
use Rattle.std.specs.Str.Parse.{AllDigits}
use Rattle.std.proofs.lemmas.Bool.Decides.{nat_tests}
use Rattle.std.proofs.lemmas.Fmt.{decimal_is_IsNumeral, length-decimal-le}
use Rattle.std.proofs.lemmas.List.Splits.{slice_split_none, slice_split_at}
use Rattle.tm_base.specs.Days.{moment_text}
use Rattle.tm_base.specs.IsName.{IsName}
use Rattle.tm_reply.specs.Escapes.{printed_word, printed_path, printed_id}
use Rattle.tm_reply.specs.Layout.{spaced}
use Rattle.tm_reply.proofs.EscapeLemmas.{percent_decode-printed_word}
use Rattle.uuid.specs.Text.{by_index, hex_digit, lower, is_hyphen_place, digit_place, nibble}
use Rattle.uuid.proofs.TextLemmas.{by_index_length}
use Rattle.tm_text.specs.Bounds.{IsValidPath, IsValidText, IsValidValue, IsValidTarget, IsValidDate, IsValidNumber, IsValidOwner, IsValidMode, IsValidId, IsValidEvents, IsValidSteps, IsValidWhich, IsValidSnapshot, IsValidItem, IsValidStored, IsValidStorePath, IsValidLine}
use Rattle.tm_text.specs.Pieces.{cut, lines_of, words_of}
use Rattle.tm_text.specs.Words.{IsNameWord, IsText, IsValue, IsNumber, IsEvents, IsSteps, IsMode, IsDate, IsId, IsPath, IsWhich, IsStorePathParts, IsStorePath, IsItem, IsSnapshot, IsStored, IsTarget, IsOwner}
use Rattle.tm_text.specs.Shapes.{OneWord, TwoWords, ThreeWords, TwoAnd, OptionAnd, MayBeLeftOut, Makes, NoWord}
use Rattle.tm_text.specs.Verbs.{keywords, session_word, item_word, tmutil_word, fsevents_word, store_word}
use Rattle.tm_text.specs.Lines.{Arguments, IsLine}
use Rattle.tm_text.specs.Script.{Spell, no_line, spelled, IsScript, is_skipped}
use Rattle.tm_text.specs.declared.session.SessionVerb.{SessionVerb}
use Rattle.tm_text.specs.declared.session.SessionVerb.TheVariants as session
use Rattle.tm_text.specs.declared.item.ItemVerb.{ItemVerb}
use Rattle.tm_text.specs.declared.item.ItemVerb.TheVariants as item
use Rattle.tm_text.specs.declared.tmutil.TmutilVerb.{TmutilVerb}
use Rattle.tm_text.specs.declared.tmutil.TmutilVerb.TheVariants as tmutil
use Rattle.tm_text.specs.declared.fsevents.FsEventsVerb.{FsEventsVerb}
use Rattle.tm_text.specs.declared.fsevents.FsEventsVerb.TheVariants as fsevents
use Rattle.tm_text.specs.declared.store.StoreVerb.{StoreVerb}
use Rattle.tm_text.specs.declared.store.StoreVerb.TheVariants as store
use Rattle.tm_text.specs.declared.verb.Verb.{Verb}
use Rattle.tm_text.specs.declared.verb.Verb.TheVariants as verb
use Rattle.tm_text.specs.declared.line.Line.{Line}
use Rattle.tm_text.specs.declared.line.Line.TheVariants as line
use Rattle.tm_text.specs.declared.place.StorePath.{StorePath}
use Rattle.tm_text.specs.declared.place.StorePath.TheVariants as store_path
use Rattle.tm_text.specs.declared.place.Stored.{Stored}
use Rattle.tm_text.specs.declared.place.Stored.TheVariants as stored
use Rattle.tm_text.specs.declared.place.Which.{Which}
use Rattle.tm_text.specs.declared.place.Which.TheVariants as which
use Rattle.tm_text.proofs.PrintedLemmas.{Every, none, more, joined, weaker, utf8_bytes, plain_printed, some_printed, name_reads, path_reads, id_reads, date_bytes, slashed, AreParts, part, no_part, pieces_slashed, name_part, name_parts, date_part, top_part, printed_names, begins_with_slash, top_decodes}
use Rattle.tm_text.proofs.BoundsLemmas.{Each, no_one, one}

-- a word that can stand in a script: bytes above the blank
record IsPrinted (word : List ℕ) : Type 0 where
  some : 0 < length word
  plain : Every (λ b. 0x20 < b) word

and_right : (a b : Bool) → (a && b) ≡ true → b ≡ true
and_right true b e = e
and_right false b e = absurd (true≢false (sym e))

and_left : (a b : Bool) → (a && b) ≡ true → a ≡ true
and_left true b e = refl
and_left false b e = e

every_tested : (word : List ℕ) → list_all (λ b. nat_lt 0x20 b) word ≡ true → Every (λ b. 0x20 < b) word
every_tested [] e = none
every_tested (b ∷ word) e =
    let above : nat_lt 0x20 b ≡ true = and_left (nat_lt 0x20 b) _ e in
    more (grind (arith, nat_tests)) (every_tested word (and_right (nat_lt 0x20 b) _ e))

literal : (word : List ℕ) → 0 < length word → list_all (λ b. nat_lt 0x20 b) word ≡ true → IsPrinted word
literal word some plain = record { some = some; plain = every_tested word plain }

-- a word that spells it
record HasWord {A : Type 0} (P : List ℕ → A → Type 0) (x : A) : Type 0 where
  word : List ℕ
  printed : IsPrinted word
  spells : P word x

-- what is valid has a word
record WritesWord {A : Type 0} (P : List ℕ → A → Type 0) (V : A → Type 0) : Type 0 where
  write : (x : A) → V x → HasWord P x

-- words that spell it
record HasWords {A : Type 0} (P : List (List ℕ) → A → Type 0) (x : A) : Type 0 where
  words : List (List ℕ)
  printed : Each IsPrinted words
  spells : P words x

-- what is valid has words
record Writes {A : Type 0} (P : List (List ℕ) → A → Type 0) (V : A → Type 0) : Type 0 where
  write : (x : A) → V x → HasWords P x

-- the words

printed : (bytes : List ℕ) → 1 ≤ length bytes → IsPrinted (printed_word bytes)
printed bytes some = record { some = some_printed bytes some; plain = plain_printed bytes }

name_written : WritesWord IsNameWord IsName
name_written = record { write = λ name is. record { word = printed_word name; printed = printed name is.some; spells = name_reads name is } }

text_written : WritesWord IsText IsValidText
unfolding IsText
text_written = record {
  write = λ text v.
      record { word = printed_word text; printed = printed text v.0; spells = sym (percent_decode-printed_word text v.1) };
}

target_written : WritesWord IsTarget IsValidTarget
unfolding IsTarget
target_written = record {
  write = λ target v.
      record {
        word = printed_word target;
        printed = printed target v.0;
        spells = (sym (percent_decode-printed_word target (utf8_bytes target v.2).all), v.0, v.1, v.2, v.3);
      };
}

digit_plain : (c : ℕ) → digit_value c < 10 → 0x20 < c
digit_plain c digit = grind (arith, nat_tests)

digits_plain : (digits : List ℕ) → AllDigits 10 digits → Every (λ b. 0x20 < b) digits
digits_plain [] all = none
digits_plain (c ∷ digits) all = more (digit_plain c all.0) (digits_plain digits all.1)

printed_decimal : (n : ℕ) → n < 2 ^ 64 → IsPrinted (decimal n)
printed_decimal n small =
    let numeral = decimal_is_IsNumeral n small in
    record { some = numeral.0.0; plain = digits_plain (decimal n) numeral.0.1 }

number_reads : (n : ℕ) → n < 2 ^ 64 → IsNumber (decimal n) n
unfolding IsNumber
number_reads n small =
    let numeral = decimal_is_IsNumeral n small in
    (numeral.0, length-decimal-le 20 n (lit< tt) (omega arith) small, sym numeral.1, small)

number_written : WritesWord IsNumber IsValidNumber
number_written = record {
  write = λ n small. record { word = decimal n; printed = printed_decimal n small; spells = number_reads n small };
}

events_written : WritesWord IsEvents IsValidEvents
unfolding IsEvents
events_written = record {
  write = λ n v.
      let small : n < 2 ^ 64 = omega arith in
      record { word = decimal n; printed = printed_decimal n small; spells = (number_reads n small, v.0, v.1) };
}

steps_written : WritesWord IsSteps IsValidSteps
unfolding IsSteps
steps_written = record {
  write = λ n v. record { word = decimal n; printed = printed_decimal n v.1; spells = (number_reads n v.1, v.0) };
}

owner_written : WritesWord IsOwner IsValidOwner
unfolding IsOwner
owner_written = record {
  write = λ n v.
      let small : n < 2 ^ 64 = omega arith in
      record { word = decimal n; printed = printed_decimal n small; spells = (number_reads n small, v) };
}

-- four octal digits
octal_text : ℕ → List ℕ
octal_text n = (48 + n / 512) ∷ (48 + n / 64 % 8) ∷ (48 + n / 8 % 8) ∷ (48 + n % 8) ∷ []

digit_is : (d : ℕ) → d < 10 → digit_value (48 + d) ≡ d
digit_is d small = grind (arith, nat_tests)

mode_written : WritesWord IsMode IsValidMode
unfolding IsMode octal_text
mode_written = record {
  write = λ n v.
      let a : digit_value (48 + n / 512) ≡ n / 512 = digit_is (n / 512) (omega arith) in
      let b : digit_value (48 + n / 64 % 8) ≡ n / 64 % 8 = digit_is (n / 64 % 8) (omega arith) in
      let c : digit_value (48 + n / 8 % 8) ≡ n / 8 % 8 = digit_is (n / 8 % 8) (omega arith) in
      let d : digit_value (48 + n % 8) ≡ n % 8 = digit_is (n % 8) (omega arith) in
      record {
        word = octal_text n;
        printed = record { some = lit< tt; plain = more (omega arith) (more (omega arith) (more (omega arith) (more (omega arith) none))) };
        spells = (
          (lit< tt, (rw a (omega arith), (rw b (omega arith), (rw c (omega arith), (rw d (omega arith), tt))))),
          lit≤ tt,
          rw (a, b, c, d) (omega arith),
        );
      };
}

date_plain : (n : ℕ) → IsPrinted (moment_text n)
unfolding moment_text
date_plain n = record {
  some = lit< tt;
  plain = weaker {P = λ b. 0x2F < b ⊎ (b ≡ 45)} (λ b p. elim p [ inl above ↦ omega arith | inr dash ↦ omega arith ]) (date_bytes n);
}

date_written : WritesWord IsDate IsValidDate
unfolding IsDate
date_written = record { write = λ n v. record { word = moment_text n; printed = date_plain n; spells = (v, refl) } }

path_plain : (path : List (List ℕ)) → Every (λ b. 0x20 < b) (flat_map (λ n. 0x2F ∷ printed_word n) path)
path_plain [] = none
path_plain (name ∷ path) = joined (more (lit< tt) (plain_printed name)) (path_plain path)

printed_path_plain : (path : List (List ℕ)) → IsPrinted (printed_path path)
unfolding printed_path
printed_path_plain [] = literal (codes "/") (lit< tt) refl
printed_path_plain (name ∷ path) = record { some = omega arith; plain = path_plain (name ∷ path) }

path_written : WritesWord IsPath IsValidPath
path_written = record {
  write = λ path v. record { word = printed_path path; printed = printed_path_plain path; spells = path_reads path v.0 v.1 };
}

every_by_index : (n : ℕ) (f : ℕ → ℕ) → ((k : ℕ) → 0x20 < f k) → Every (λ b. 0x20 < b) (by_index n f)
unfolding by_index
every_by_index zero f above = none
every_by_index (suc n) f above = joined (every_by_index n f above) (more (above n) none)

above_if : (t : Bool) (x y : ℕ) → 0x20 < x → 0x20 < y → 0x20 < (if t then x else y)
above_if true x y p q = p
above_if false x y p q = q

printed_id_plain : (id : ℕ) → IsPrinted (printed_id id)
unfolding printed_id
printed_id_plain id =
    let xs = to_be_bytes w128 id in
    let digit : (d : ℕ) → 0x20 < hex_digit lower d = λ d. above_if (nat_lt d 10) _ _ (omega arith) (omega arith) in
    record {
      some = omega (arith, by_index_length 36 (λ k. if is_hyphen_place k then 45 else hex_digit lower (nibble xs (digit_place k))));
      plain = every_by_index 36 _ (λ k. above_if (is_hyphen_place k) _ _ (lit< tt) (digit (nibble xs (digit_place k))));
    }

id_written : WritesWord IsId IsValidId
id_written = record { write = λ id v. record { word = printed_id id; printed = printed_id_plain id; spells = id_reads id v } }

-- store paths

which_text : Which → List ℕ
which_text which.Latest = codes "Latest"
which_text (which.At date) = moment_text date

which_reads : (w : Which) → IsValidWhich w → IsWhich (which_text w) w
unfolding IsWhich IsDate which_text
which_reads which.Latest v = refl
which_reads (which.At date) v = (v, refl)

which_plain : (w : Which) → IsPrinted (which_text w)
unfolding which_text
which_plain which.Latest = literal (codes "Latest") (lit< tt) refl
which_plain (which.At date) = date_plain date

which_part : (w : Which) (words : List (List ℕ)) → AreParts words → AreParts (which_text w ∷ words)
unfolding which_text
which_part which.Latest words rest = part (lit< tt) (more refl (more refl (more refl (more refl (more refl (more refl none)))))) rest
which_part (which.At date) words rest = date_part date words rest

-- the parts below the top
below : StorePath → List (List ℕ)
below store_path.Top = []
below (store_path.Machine machine) = printed_word machine ∷ []
below (store_path.Snapshot s) = printed_word s.machine ∷ which_text s.at ∷ []
below (store_path.Item i) = printed_word i.snapshot.machine ∷ which_text i.snapshot.at ∷ printed_word i.volume ∷ map printed_word i.path

below_reads : (x : StorePath) → IsValidStorePath x → IsStorePathParts (below x) x
unfolding IsStorePathParts below
below_reads store_path.Top v = refl
below_reads (store_path.Machine machine) v = (printed_word machine, refl, name_reads machine v)
below_reads (store_path.Snapshot s) v =
    (printed_word s.machine, which_text s.at, refl, name_reads s.machine v.0, which_reads s.at v.1)
below_reads (store_path.Item i) v = (
  printed_word i.snapshot.machine,
  which_text i.snapshot.at,
  printed_word i.volume,
  map printed_word i.path,
  refl,
  name_reads i.snapshot.machine v.0.0,
  which_reads i.snapshot.at v.0.1,
  name_reads i.volume v.1,
  printed_names i.path v.2.0,
  v.2.1,
)

below_parts : (x : StorePath) → IsValidStorePath x → AreParts (below x)
unfolding below
below_parts store_path.Top v = no_part
below_parts (store_path.Machine machine) v = name_part machine _ v no_part
below_parts (store_path.Snapshot s) v = name_part s.machine _ v.0 (which_part s.at _ no_part)
below_parts (store_path.Item i) v =
    name_part i.snapshot.machine _ v.0.0 (which_part i.snapshot.at _ (name_part i.volume _ v.1 (name_parts i.path v.2.0)))

names_plain : (names : List (List ℕ)) → Each (Every (λ b. 0x20 < b)) (map printed_word names)
names_plain [] = no_one
names_plain (name ∷ names) = one (plain_printed name) (names_plain names)

below_plain : (x : StorePath) → Each (Every (λ b. 0x20 < b)) (below x)
unfolding below
below_plain store_path.Top = no_one
below_plain (store_path.Machine machine) = one (plain_printed machine) no_one
below_plain (store_path.Snapshot s) = one (plain_printed s.machine) (one (which_plain s.at).plain no_one)
below_plain (store_path.Item i) =
    one (plain_printed i.snapshot.machine)
    (one (which_plain i.snapshot.at).plain (one (plain_printed i.volume) (names_plain i.path)))

slashed_plain : (words : List (List ℕ)) → Each (Every (λ b. 0x20 < b)) words → Every (λ b. 0x20 < b) (slashed words)
unfolding slashed
slashed_plain [] no_one = none
slashed_plain (word ∷ words) (one here rest) = joined (more (lit< tt) here) (slashed_plain words rest)

store_path_text : StorePath → List ℕ
store_path_text x = slashed (codes "Backups.backupdb" ∷ below x)

store_path_plain : (x : StorePath) → IsPrinted (store_path_text x)
unfolding store_path_text slashed
store_path_plain x = record {
  some = omega arith;
  plain = slashed_plain (codes "Backups.backupdb" ∷ below x) (one (every_tested (codes "Backups.backupdb") refl) (below_plain x));
}

store_path_reads : (x : StorePath) → IsValidStorePath x → IsStorePath (store_path_text x) x
unfolding IsStorePath store_path_text slashed
store_path_reads x v = (
  codes "Backups.backupdb",
  below x,
  begins_with_slash (codes "Backups.backupdb" ++ slashed (below x)),
  pieces_slashed (codes "Backups.backupdb" ∷ below x) (top_part (below x) (below_parts x v)),
  top_decodes,
  below_reads x v,
)

store_path_written : WritesWord IsStorePath IsValidStorePath
store_path_written = record {
  write = λ x v. record { word = store_path_text x; printed = store_path_plain x; spells = store_path_reads x v };
}

item_written : WritesWord IsItem IsValidItem
unfolding IsItem
item_written = record {
  write = λ i v.
      let x : StorePath = store_path.Item i in
      record { word = store_path_text x; printed = store_path_plain x; spells = store_path_reads x v };
}

snapshot_written : WritesWord IsSnapshot IsValidSnapshot
unfolding IsSnapshot
snapshot_written = record {
  write = λ s v.
      let x : StorePath = store_path.Snapshot s in
      record { word = store_path_text x; printed = store_path_plain x; spells = store_path_reads x v };
}

stored_place : Stored → StorePath
stored_place (stored.Snapshot s) = store_path.Snapshot s
stored_place (stored.Item i) = store_path.Item i

stored_reads : (x : Stored) → IsValidStored x → IsStored (store_path_text (stored_place x)) x
unfolding IsStored stored_place
stored_reads (stored.Snapshot s) v = store_path_reads (store_path.Snapshot s) v
stored_reads (stored.Item i) v = store_path_reads (store_path.Item i) v

stored_written : WritesWord IsStored IsValidStored
stored_written = record {
  write = λ x v.
      record { word = store_path_text (stored_place x); printed = store_path_plain (stored_place x); spells = stored_reads x v };
}

-- the shapes

module _ {A : Type 0} {P : List ℕ → A → Type 0} {V : A → Type 0} (p_written : WritesWord P V) where
  one_word : Writes (OneWord P) V
  unfolding OneWord
  one_word = record {
    write = λ x v.
        let p = p_written.write x v in
        record { words = p.word ∷ []; printed = one p.printed no_one; spells = (p.word, refl, p.spells) };
  }

  option_and : (option : List ℕ) → IsPrinted option → Writes (OptionAnd option P) V
  unfolding OptionAnd
  option_and option plain = record {
    write = λ x v.
        let p = p_written.write x v in
        record { words = option ∷ p.word ∷ []; printed = one plain (one p.printed no_one); spells = (p.word, refl, p.spells) };
  }

module _ {A B : Type 0} {P : List ℕ → A → Type 0} {Q : List ℕ → B → Type 0} {V : A → Type 0} {W : B → Type 0}
    (p_written : WritesWord P V) (q_written : WritesWord Q W) where
  two_words : Writes (TwoWords P Q) (λ xy. V xy.0 × W xy.1)
  unfolding TwoWords
  two_words = record {
    write = λ xy v.
        let p = p_written.write xy.0 v.0 in
        let q = q_written.write xy.1 v.1 in
        record {
          words = p.word ∷ q.word ∷ [];
          printed = one p.printed (one q.printed no_one);
          spells = (p.word, q.word, refl, p.spells, q.spells);
        };
  }

module _ {A B C : Type 0} {P : List ℕ → A → Type 0} {Q : List ℕ → B → Type 0} {R : List ℕ → C → Type 0}
    {V : A → Type 0} {W : B → Type 0} {X : C → Type 0} (p_written : WritesWord P V) (q_written : WritesWord Q W) (r_written : WritesWord R X) where
  three_words : Writes (ThreeWords P Q R) (λ xyz. V xyz.0 × W xyz.1 × X xyz.2)
  unfolding ThreeWords
  three_words = record {
    write = λ xyz v.
        let p = p_written.write xyz.0 v.0 in
        let q = q_written.write xyz.1 v.1 in
        let r = r_written.write xyz.2 v.2 in
        record {
          words = p.word ∷ q.word ∷ r.word ∷ [];
          printed = one p.printed (one q.printed (one r.printed no_one));
          spells = (p.word, q.word, r.word, refl, p.spells, q.spells, r.spells);
        };
  }

module _ {A B C : Type 0} {P : List ℕ → A → Type 0} {Q : List ℕ → B → Type 0} {R : List (List ℕ) → C → Type 0}
    {V : A → Type 0} {W : B → Type 0} {X : C → Type 0} (p_written : WritesWord P V) (q_written : WritesWord Q W) (r_written : Writes R X) where
  two_and : Writes (TwoAnd P Q R) (λ xyz. V xyz.0 × W xyz.1 × X xyz.2)
  unfolding TwoAnd
  two_and = record {
    write = λ xyz v.
        let p = p_written.write xyz.0 v.0 in
        let q = q_written.write xyz.1 v.1 in
        let r = r_written.write xyz.2 v.2 in
        record {
          words = p.word ∷ q.word ∷ r.words;
          printed = one p.printed (one q.printed r.printed);
          spells = (p.word, q.word, r.words, refl, p.spells, q.spells, r.spells);
        };
  }

value_is_written : (value : List ℕ) → IsValidValue value → HasWords (MayBeLeftOut IsValue) value
unfolding MayBeLeftOut IsValue
value_is_written [] v = record { words = []; printed = no_one; spells = inl (refl, refl) }
value_is_written (b ∷ value) v =
    let word = printed_word (b ∷ value) in
    record {
      words = word ∷ [];
      printed = one (printed (b ∷ value) (omega arith)) no_one;
      spells = inr (word, refl, (sym (percent_decode-printed_word (b ∷ value) v.1), v.0));
    }

value_written : Writes (MayBeLeftOut IsValue) IsValidValue
value_written = record { write = value_is_written }

-- the lines

-- a line's verb, and the words after its keywords
record HasLine (line : Line) : Type 0 where
  verb : Verb
  arguments : HasWords (Arguments verb) line

makes : {A : Type 0} {S : List (List ℕ) → A → Type 0} {V : A → Type 0} → Writes S V → (make : A → Line) (x : A) → V x
    → HasWords (Makes S make) (make x)
makes {A} {S} {V} s_written make x v =
    let s = s_written.write x v in
    record { words = s.words; printed = s.printed; spells = (x, s.spells, refl) }

no_word : (made : Line) → HasWords (NoWord made) made
no_word made = record { words = []; printed = no_one; spells = (refl, refl) }

with_no_option : (make second : List (List ℕ) → Line) (path : List (List ℕ)) → IsValidPath path
    → HasWords (λ ws l. Makes (OneWord IsPath) make ws l ⊎ Makes (OptionAnd (codes "-p") IsPath) second ws l) (make path)
with_no_option make second path v =
    let made = makes (one_word path_written) make path v in
    record { words = made.words; printed = made.printed; spells = inl made.spells }

with_option : (first make : List (List ℕ) → Line) (path : List (List ℕ)) → IsValidPath path
    → HasWords (λ ws l. Makes (OneWord IsPath) first ws l ⊎ Makes (OptionAnd (codes "-p") IsPath) make ws l) (make path)
with_option first make path v =
    let made = makes (option_and path_written (codes "-p") (literal (codes "-p") (lit< tt) refl)) make path v in
    record { words = made.words; printed = made.printed; spells = inr made.spells }

line_written : (l : Line) → IsValidLine l → HasLine l
line_written (line.At date) v = record { verb = verb.Session session.At; arguments = makes (one_word date_written) line.At date v }
line_written (line.NewVolume name id events) v = record { verb = verb.Session session.NewVolume; arguments = makes (three_words name_written id_written events_written) (λ x. line.NewVolume x.0 x.1 x.2) (name, id, events) v }
line_written (line.NewStore machine) v = record { verb = verb.Session session.NewStore; arguments = makes (one_word name_written) line.NewStore machine v }
line_written (line.Mkdir path) v = record { verb = verb.Item item.Mkdir; arguments = makes (one_word path_written) line.Mkdir path v }
line_written (line.Write path text) v = record { verb = verb.Item item.Write; arguments = makes (two_words path_written text_written) (λ x. line.Write x.0 x.1) (path, text) v }
line_written (line.Append path text) v = record { verb = verb.Item item.Append; arguments = makes (two_words path_written text_written) (λ x. line.Append x.0 x.1) (path, text) v }
line_written (line.Fill path bytes seed) v = record { verb = verb.Item item.Fill; arguments = makes (three_words path_written number_written number_written) (λ x. line.Fill x.0 x.1 x.2) (path, bytes, seed) v }
line_written (line.Rm path) v = record { verb = verb.Item item.Rm; arguments = makes (one_word path_written) line.Rm path v }
line_written (line.Rmdir path) v = record { verb = verb.Item item.Rmdir; arguments = makes (one_word path_written) line.Rmdir path v }
line_written (line.Mv from to) v = record { verb = verb.Item item.Mv; arguments = makes (two_words path_written path_written) (λ x. line.Mv x.0 x.1) (from, to) v }
line_written (line.Ln path target) v = record { verb = verb.Item item.Ln; arguments = makes (two_words path_written target_written) (λ x. line.Ln x.0 x.1) (path, target) v }
line_written (line.Chmod path mode) v = record { verb = verb.Item item.Chmod; arguments = makes (two_words path_written mode_written) (λ x. line.Chmod x.0 x.1) (path, mode) v }
line_written (line.Chown path uid gid) v = record { verb = verb.Item item.Chown; arguments = makes (three_words path_written owner_written owner_written) (λ x. line.Chown x.0 x.1 x.2) (path, uid, gid) v }
line_written (line.Setx path name value) v = record { verb = verb.Item item.Setx; arguments = makes (two_and path_written name_written value_written) (λ x. line.Setx x.0 x.1 x.2) (path, name, value) v }
line_written (line.Rmx path name) v = record { verb = verb.Item item.Rmx; arguments = makes (two_words path_written name_written) (λ x. line.Rmx x.0 x.1) (path, name) v }
line_written (line.Ls path) v = record { verb = verb.Item item.Ls; arguments = makes (one_word path_written) line.Ls path v }
line_written (line.Cat path) v = record { verb = verb.Item item.Cat; arguments = makes (one_word path_written) line.Cat path v }
line_written (line.Gen seed count) v = record { verb = verb.Session session.Gen; arguments = makes (two_words number_written number_written) (λ x. line.Gen x.0 x.1) (seed, count) v }
line_written line.StartBackup v = record { verb = verb.Tmutil tmutil.StartBackup; arguments = record { words = []; printed = no_one; spells = inl (refl, refl) } }
line_written line.StartBackupBlock v = record { verb = verb.Tmutil tmutil.StartBackup; arguments = record { words = codes "--block" ∷ []; printed = one (literal (codes "--block") (lit< tt) refl) no_one; spells = inr (refl, refl) } }
line_written (line.Advance steps) v = record { verb = verb.Session session.Advance; arguments = makes (one_word steps_written) line.Advance steps v }
line_written line.StopBackup v = record { verb = verb.Tmutil tmutil.StopBackup; arguments = no_word line.StopBackup }
line_written line.ListBackups v = record { verb = verb.Tmutil tmutil.ListBackups; arguments = no_word line.ListBackups }
line_written line.LatestBackup v = record { verb = verb.Tmutil tmutil.LatestBackup; arguments = no_word line.LatestBackup }
line_written line.MachineDirectory v = record { verb = verb.Tmutil tmutil.MachineDirectory; arguments = no_word line.MachineDirectory }
line_written (line.AddExclusion path) v = record { verb = verb.Tmutil tmutil.AddExclusion; arguments = with_no_option line.AddExclusion line.AddFixedExclusion path v }
line_written (line.AddFixedExclusion path) v = record { verb = verb.Tmutil tmutil.AddExclusion; arguments = with_option line.AddExclusion line.AddFixedExclusion path v }
line_written (line.RemoveExclusion path) v = record { verb = verb.Tmutil tmutil.RemoveExclusion; arguments = with_no_option line.RemoveExclusion line.RemoveFixedExclusion path v }
line_written (line.RemoveFixedExclusion path) v = record { verb = verb.Tmutil tmutil.RemoveExclusion; arguments = with_option line.RemoveExclusion line.RemoveFixedExclusion path v }
line_written (line.IsExcluded path) v = record { verb = verb.Tmutil tmutil.IsExcluded; arguments = makes (one_word path_written) line.IsExcluded path v }
line_written (line.UniqueSize place) v = record { verb = verb.Tmutil tmutil.UniqueSize; arguments = makes (one_word stored_written) line.UniqueSize place v }
line_written (line.Delete snapshot) v = record { verb = verb.Tmutil tmutil.Delete; arguments = makes (one_word snapshot_written) line.Delete snapshot v }
line_written (line.Restore stored_item to) v = record { verb = verb.Tmutil tmutil.Restore; arguments = makes (two_words item_written path_written) (λ x. line.Restore x.0 x.1) (stored_item, to) v }
line_written line.Thin v = record { verb = verb.Session session.Thin; arguments = no_word line.Thin }
line_written (line.FsEventsSince n) v = record { verb = verb.FsEvents fsevents.Since; arguments = makes (one_word number_written) line.FsEventsSince n v }
line_written line.FsEventsUuid v = record { verb = verb.FsEvents fsevents.Uuid; arguments = no_word line.FsEventsUuid }
line_written line.FsEventsDrop v = record { verb = verb.FsEvents fsevents.Drop; arguments = no_word line.FsEventsDrop }
line_written line.FsEventsLose v = record { verb = verb.FsEvents fsevents.Lose; arguments = no_word line.FsEventsLose }
line_written (line.StoreLs place) v = record { verb = verb.Store store.Ls; arguments = makes (one_word store_path_written) line.StoreLs place v }
line_written (line.StoreCat stored_item) v = record { verb = verb.Store store.Cat; arguments = makes (one_word item_written) line.StoreCat stored_item v }
line_written (line.StoreStat stored_item) v = record { verb = verb.Store store.Stat; arguments = makes (one_word item_written) line.StoreStat stored_item v }
line_written line.StoreDf v = record { verb = verb.Store store.Df; arguments = no_word line.StoreDf }

-- the keywords

-- a keyword begins no comment
record IsKeyword (word : List ℕ) : Type 0 where
  printed : IsPrinted word
  begins : (slice_index_or word 0 0 == 0x23) ≡ false

keyword : (word : List ℕ) → 0 < length word → list_all (λ b. nat_lt 0x20 b) word ≡ true → (slice_index_or word 0 0 == 0x23) ≡ false → IsKeyword word
keyword word some plain begins = record { printed = literal word some plain; begins = begins }

session_keyword : (v : SessionVerb) → IsKeyword (session_word v)
session_keyword session.At = keyword (session_word session.At) (lit< tt) refl refl
session_keyword session.NewVolume = keyword (session_word session.NewVolume) (lit< tt) refl refl
session_keyword session.NewStore = keyword (session_word session.NewStore) (lit< tt) refl refl
session_keyword session.Advance = keyword (session_word session.Advance) (lit< tt) refl refl
session_keyword session.Gen = keyword (session_word session.Gen) (lit< tt) refl refl
session_keyword session.Thin = keyword (session_word session.Thin) (lit< tt) refl refl

item_keyword : (v : ItemVerb) → IsKeyword (item_word v)
item_keyword item.Mkdir = keyword (item_word item.Mkdir) (lit< tt) refl refl
item_keyword item.Write = keyword (item_word item.Write) (lit< tt) refl refl
item_keyword item.Append = keyword (item_word item.Append) (lit< tt) refl refl
item_keyword item.Fill = keyword (item_word item.Fill) (lit< tt) refl refl
item_keyword item.Rm = keyword (item_word item.Rm) (lit< tt) refl refl
item_keyword item.Rmdir = keyword (item_word item.Rmdir) (lit< tt) refl refl
item_keyword item.Mv = keyword (item_word item.Mv) (lit< tt) refl refl
item_keyword item.Ln = keyword (item_word item.Ln) (lit< tt) refl refl
item_keyword item.Chmod = keyword (item_word item.Chmod) (lit< tt) refl refl
item_keyword item.Chown = keyword (item_word item.Chown) (lit< tt) refl refl
item_keyword item.Setx = keyword (item_word item.Setx) (lit< tt) refl refl
item_keyword item.Rmx = keyword (item_word item.Rmx) (lit< tt) refl refl
item_keyword item.Ls = keyword (item_word item.Ls) (lit< tt) refl refl
item_keyword item.Cat = keyword (item_word item.Cat) (lit< tt) refl refl

tmutil_keyword : (v : TmutilVerb) → IsKeyword (tmutil_word v)
tmutil_keyword tmutil.StartBackup = keyword (tmutil_word tmutil.StartBackup) (lit< tt) refl refl
tmutil_keyword tmutil.StopBackup = keyword (tmutil_word tmutil.StopBackup) (lit< tt) refl refl
tmutil_keyword tmutil.ListBackups = keyword (tmutil_word tmutil.ListBackups) (lit< tt) refl refl
tmutil_keyword tmutil.LatestBackup = keyword (tmutil_word tmutil.LatestBackup) (lit< tt) refl refl
tmutil_keyword tmutil.MachineDirectory = keyword (tmutil_word tmutil.MachineDirectory) (lit< tt) refl refl
tmutil_keyword tmutil.AddExclusion = keyword (tmutil_word tmutil.AddExclusion) (lit< tt) refl refl
tmutil_keyword tmutil.RemoveExclusion = keyword (tmutil_word tmutil.RemoveExclusion) (lit< tt) refl refl
tmutil_keyword tmutil.IsExcluded = keyword (tmutil_word tmutil.IsExcluded) (lit< tt) refl refl
tmutil_keyword tmutil.UniqueSize = keyword (tmutil_word tmutil.UniqueSize) (lit< tt) refl refl
tmutil_keyword tmutil.Delete = keyword (tmutil_word tmutil.Delete) (lit< tt) refl refl
tmutil_keyword tmutil.Restore = keyword (tmutil_word tmutil.Restore) (lit< tt) refl refl

fsevents_keyword : (v : FsEventsVerb) → IsKeyword (fsevents_word v)
fsevents_keyword fsevents.Since = keyword (fsevents_word fsevents.Since) (lit< tt) refl refl
fsevents_keyword fsevents.Uuid = keyword (fsevents_word fsevents.Uuid) (lit< tt) refl refl
fsevents_keyword fsevents.Drop = keyword (fsevents_word fsevents.Drop) (lit< tt) refl refl
fsevents_keyword fsevents.Lose = keyword (fsevents_word fsevents.Lose) (lit< tt) refl refl

store_keyword : (v : StoreVerb) → IsKeyword (store_word v)
store_keyword store.Ls = keyword (store_word store.Ls) (lit< tt) refl refl
store_keyword store.Cat = keyword (store_word store.Cat) (lit< tt) refl refl
store_keyword store.Stat = keyword (store_word store.Stat) (lit< tt) refl refl
store_keyword store.Df = keyword (store_word store.Df) (lit< tt) refl refl

keywords_printed : (v : Verb) → Each IsPrinted (keywords v)
keywords_printed (verb.Session v) = one (session_keyword v).printed no_one
keywords_printed (verb.Item v) = one (item_keyword v).printed no_one
keywords_printed (verb.Tmutil v) = one (literal (codes "tmutil") (lit< tt) refl) (one (tmutil_keyword v).printed no_one)
keywords_printed (verb.FsEvents v) = one (literal (codes "fsevents") (lit< tt) refl) (one (fsevents_keyword v).printed no_one)
keywords_printed (verb.Store v) = one (literal (codes "store") (lit< tt) refl) (one (store_keyword v).printed no_one)

no_comment : (v : Verb) (rest : List (List ℕ)) → is_skipped (keywords v ++ rest) ≡ false
no_comment (verb.Session v) rest = (session_keyword v).begins
no_comment (verb.Item v) rest = (item_keyword v).begins
no_comment (verb.Tmutil v) rest = refl
no_comment (verb.FsEvents v) rest = refl
no_comment (verb.Store v) rest = refl

-- the script

both_printed : (a b : List (List ℕ)) → Each IsPrinted a → Each IsPrinted b → Each IsPrinted (a ++ b)
both_printed [] b no_one q = q
both_printed (w ∷ a) b (one here rest) q = one here (both_printed a b rest q)

unequal_above : (b at : ℕ) → at < b → (b == at) ≡ false
unequal_above b at above = grind (arith, nat_tests)

no_blank : (word : List ℕ) → IsPrinted word → All (λ b. (b == 0x20) ≡ false) word
no_blank word p = (weaker (λ b above. unequal_above b 0x20 above) p.plain).all

cut_spaced : (word : List ℕ) (words : List (List ℕ)) → IsPrinted word → Each IsPrinted words → cut 0x20 (spaced (word ∷ words)) ≡ word ∷ words
cut_spaced word [] p no_one = slice_split_none (λ b. b == 0x20) word (no_blank word p)
cut_spaced word (next ∷ words) p (one q rest) =
    slice_split_at (λ b. b == 0x20) word 0x20 (spaced (next ∷ words)) (no_blank word p) refl
    ∙ ap (λ (parts : List (List ℕ)). word ∷ parts) (cut_spaced next words q rest)

kept_word : (t : Bool) (word : List ℕ) (words : List (List ℕ)) → t ≡ true → cond t (word ∷ words) words ≡ word ∷ words
kept_word true word words e = refl
kept_word false word words e = absurd (true≢false (sym e))

filter_words : (words : List (List ℕ)) → Each IsPrinted words → filter (λ part. nat_lt 0 (length part)) words ≡ words
filter_words [] no_one = refl
filter_words (word ∷ words) (one p rest) =
    let some = p.some in
    let full : nat_lt 0 (length word) ≡ true = grind (arith, nat_tests) in
    kept_word (nat_lt 0 (length word)) word _ full ∙ ap (λ (parts : List (List ℕ)). word ∷ parts) (filter_words words rest)

words_of-spaced : (words : List (List ℕ)) → Each IsPrinted words → words_of (spaced words) ≡ words
words_of-spaced [] no_one = refl
words_of-spaced (word ∷ words) (one p rest) =
    ap (filter (λ part. nat_lt 0 (length part))) (cut_spaced word words p rest) ∙ filter_words (word ∷ words) (one p rest)

spaced_above : (words : List (List ℕ)) → Each IsPrinted words → Every (λ b. 0x0A < b) (spaced words)
spaced_above [] no_one = none
spaced_above (word ∷ []) (one p no_one) = weaker (λ b above. omega arith) p.plain
spaced_above (word ∷ next ∷ words) (one p rest) =
    joined (weaker (λ b above. omega arith) p.plain) (more (lit< tt) (spaced_above (next ∷ words) rest))

lines_of-spaced : (words : List (List ℕ)) → Each IsPrinted words → lines_of (spaced words) ≡ spaced words ∷ []
lines_of-spaced words p =
    slice_split_none (λ b. b == 0x0A) (spaced words) (weaker (λ b above. unequal_above b 0x0A above) (spaced_above words p)).all

pub script_of : (line : Line) → IsValidLine line → (script : List ℕ) × IsScript script (line ∷ [])
unfolding IsLine
script_of line v =
    let l = line_written line v in
    let rest = l.arguments.words in
    let words = keywords l.verb ++ rest in
    let printed_all = both_printed (keywords l.verb) rest (keywords_printed l.verb) l.arguments.printed in
    let read : map words_of (lines_of (spaced words)) ≡ words ∷ [] =
    ap (map words_of) (lines_of-spaced words printed_all) ∙ ap (λ (w : List (List ℕ)). w ∷ []) (words_of-spaced words printed_all)
    in (
      spaced words,
      subst (λ (w : List (List (List ℕ))). Spell w (line ∷ [])) (sym read)
          (spelled (no_comment l.verb rest) (l.verb, rest, refl, l.arguments.spells) no_line),
    )
