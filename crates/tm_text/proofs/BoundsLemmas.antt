-- The values of lines are within their bounds.
use Rattle.std.proofs.Common.{◌≡◌, ℕ, ◌<◌, ◌≤◌, ◌^◌, ◌⊎◌, inl, inr, Bool, true, false, cond, List, [], ◌∷◌, ◌++◌, All, length, map, filter, nat_lt, refl, sym, ap, subst, arith, lit≤}
use Rattle.std.specs.List.{slice_split, onto_first}
use Rattle.std.specs.Str.Parse.{digits_value}
use Rattle.std.proofs.lemmas.Int.Digits.{digits_value-lt}
use Rattle.std.proofs.lemmas.List.Elements.{All-nil, All-cons, All-head, All-tail}
use Rattle.std.proofs.lemmas.Bool.Decides.{nat_tests}
use Rattle.std.proofs.Math.Nat.{pow-le-pow_right}
use Rattle.percent_encoding.specs.Percent.{percent_decode}
use Rattle.percent_encoding.proofs.PercentLemmas.{length-percent_decode, All-percent_decode}
use Rattle.tm_base.specs.IsName.{IsName}
use Rattle.tm_text.specs.Bounds.{IsValidPath, IsValidText, IsValidValue, IsValidTarget, IsValidDate, IsValidNumber, IsValidOwner, IsValidMode, IsValidId, IsValidEvents, IsValidSteps, IsValidWhich, IsValidSnapshot, IsValidItem, IsValidStored, IsValidStorePath, IsValidLine}
use Rattle.tm_text.specs.Pieces.{lines_of, words_of}
use Rattle.tm_text.specs.Words.{IsNameWord, IsText, IsValue, IsNumber, IsEvents, IsSteps, IsMode, IsDate, IsId, AreNames, IsPath, IsWhich, IsStorePathParts, IsStorePath, IsItem, IsSnapshot, IsStored, IsTarget, IsOwner}
use Rattle.tm_text.specs.Shapes.{OneWord, TwoWords, ThreeWords, TwoAnd, OptionAnd, MayBeLeftOut, Makes, NoWord}
use Rattle.tm_text.specs.Verbs.{keywords}
use Rattle.tm_text.specs.Lines.{Arguments, SessionArguments, ItemArguments, TmutilArguments, FsEventsArguments, StoreArguments, IsLine}
use Rattle.tm_text.specs.Script.{Spell, no_line, skipped, spelled, IsScript}
use Rattle.tm_text.specs.declared.verb.Verb.{Verb}
use Rattle.tm_text.specs.declared.verb.Verb.TheVariants as verb
use Rattle.tm_text.specs.declared.session.SessionVerb.{SessionVerb}
use Rattle.tm_text.specs.declared.session.SessionVerb.TheVariants as session
use Rattle.tm_text.specs.declared.item.ItemVerb.{ItemVerb}
use Rattle.tm_text.specs.declared.item.ItemVerb.TheVariants as item
use Rattle.tm_text.specs.declared.tmutil.TmutilVerb.{TmutilVerb}
use Rattle.tm_text.specs.declared.tmutil.TmutilVerb.TheVariants as tmutil
use Rattle.tm_text.specs.declared.fsevents.FsEventsVerb.{FsEventsVerb}
use Rattle.tm_text.specs.declared.fsevents.FsEventsVerb.TheVariants as fsevents
use Rattle.tm_text.specs.declared.store.StoreVerb.{StoreVerb}
use Rattle.tm_text.specs.declared.store.StoreVerb.TheVariants as store
use Rattle.tm_text.specs.declared.line.Line.{Line}
use Rattle.tm_text.specs.declared.place.StorePath.{StorePath}
use Rattle.tm_text.specs.declared.place.StorePath.TheVariants as store_path
use Rattle.tm_text.specs.declared.place.Stored.{Stored}
use Rattle.tm_text.specs.declared.place.Stored.TheVariants as stored
use Rattle.tm_text.specs.declared.place.Which.{Which}
use Rattle.tm_text.specs.declared.place.Which.TheVariants as which
use Rattle.tm_text.proofs.PrintedLemmas.{Every, none, more}

-- a word of a script: one byte or more
pub record IsWord (word : List ℕ) : Type 0 where
  pub some : 0 < length word
  pub bytes : Every (λ b. b < 256) word

-- each of the list is
pub data Each {A : Type 0} (Q : A → Type 0) : List A → Type 0 where
  no_one : Each Q []
  one : {x : A} {xs : List A} → Q x → Each Q xs → Each Q (x ∷ xs)

-- what a word spells is
record GivesWord {A : Type 0} (P : List ℕ → A → Type 0) (V : A → Type 0) : Type 0 where
  gives : (w : List ℕ) (x : A) → IsWord w → P w x → V x

-- what words spell is
record Gives {A : Type 0} (P : List (List ℕ) → A → Type 0) (V : A → Type 0) : Type 0 where
  gives : (ws : List (List ℕ)) (x : A) → Each IsWord ws → P ws x → V x

-- the words

name_valid : GivesWord IsNameWord IsName
unfolding IsNameWord
name_valid = record { gives = λ w x good p. p.1 }

decoded_bytes : (w x : List ℕ) → IsWord w → x ≡ percent_decode w → All (λ b. b < 256) x
decoded_bytes w x good e = subst (λ (t : List ℕ). All (λ b. b < 256) t) (sym e) (All-percent_decode w good.bytes.all)

text_valid : GivesWord IsText IsValidText
unfolding IsText
text_valid = record {
  gives = λ w x good p.
      let long = length-percent_decode w in
      let some : 0 < length w = good.some in
      let same : length x ≡ length (percent_decode w) = ap length p in
      let at_least : 1 ≤ length x = omega arith in
      (at_least, decoded_bytes w x good p);
}

value_valid : GivesWord IsValue IsValidValue
unfolding IsValue
value_valid = record { gives = λ w x good p. (p.1, decoded_bytes w x good p.0) }

target_valid : GivesWord IsTarget IsValidTarget
unfolding IsTarget
target_valid = record { gives = λ w x good p. (p.1, p.2, p.3, p.4) }

number_valid : GivesWord IsNumber IsValidNumber
unfolding IsNumber
number_valid = record { gives = λ w x good p. p.3 }

events_valid : GivesWord IsEvents IsValidEvents
unfolding IsEvents
events_valid = record { gives = λ w x good p. (p.1, p.2) }

steps_valid : GivesWord IsSteps IsValidSteps
unfolding IsSteps IsNumber
steps_valid = record { gives = λ w x good p. (p.1, p.0.3) }

owner_valid : GivesWord IsOwner IsValidOwner
unfolding IsOwner
owner_valid = record { gives = λ w x good p. p.1 }

mode_valid : GivesWord IsMode IsValidMode
unfolding IsMode
mode_valid = record {
  gives = λ w x good p.
      let below : digits_value 8 w < 8 ^ length w = digits_value-lt 8 w p.0.1 in
      let most : 8 ^ length w ≤ 8 ^ 4 = pow-le-pow_right (omega arith) p.1 in
      let same : x ≡ digits_value 8 w = p.2 in
      let small : x ≤ 4095 = omega arith in
      small;
}

date_valid : GivesWord IsDate IsValidDate
unfolding IsDate
date_valid = record { gives = λ w x good p. p.0 }

id_valid : GivesWord IsId IsValidId
unfolding IsId
id_valid = record { gives = λ w x good p. p.0 }

names_valid : (parts names : List (List ℕ)) → AreNames parts names → All IsName names
unfolding IsNameWord
names_valid [] [] p = All-nil IsName
names_valid (part ∷ parts) (name ∷ names) p = All-cons IsName name names p.0.1 (names_valid parts names p.1)
names_valid [] (name ∷ names) p = absurd p
names_valid (part ∷ parts) [] p = absurd p

path_valid : GivesWord IsPath IsValidPath
unfolding IsPath
path_valid = record { gives = λ w x good p. (names_valid _ x p.1, p.2) }

which_valid : (w : List ℕ) (x : Which) → IsWhich w x → IsValidWhich x
unfolding IsWhich IsDate
which_valid w which.Latest p = tt
which_valid w (which.At date) p = p.0

store_path_parts_valid : (parts : List (List ℕ)) (x : StorePath) → IsStorePathParts parts x → IsValidStorePath x
unfolding IsStorePathParts IsNameWord
store_path_parts_valid parts store_path.Top p = tt
store_path_parts_valid parts (store_path.Machine machine) p = p.2.1
store_path_parts_valid parts (store_path.Snapshot s) p = (p.3.1, which_valid p.1 s.at p.4)
store_path_parts_valid parts (store_path.Item i) p =
    ((p.5.1, which_valid p.1 i.snapshot.at p.6), p.7.1, (names_valid p.3 i.path p.8, p.9))

store_path_valid : GivesWord IsStorePath IsValidStorePath
unfolding IsStorePath
store_path_valid = record { gives = λ w x good p. store_path_parts_valid p.1 x p.5 }

item_valid : GivesWord IsItem IsValidItem
unfolding IsItem
item_valid = record { gives = λ w x good p. store_path_valid.gives w (store_path.Item x) good p }

snapshot_valid : GivesWord IsSnapshot IsValidSnapshot
unfolding IsSnapshot
snapshot_valid = record { gives = λ w x good p. store_path_valid.gives w (store_path.Snapshot x) good p }

stored_is_valid : (w : List ℕ) (x : Stored) → IsWord w → IsStored w x → IsValidStored x
unfolding IsStored
stored_is_valid w (stored.Snapshot s) good p = store_path_valid.gives w (store_path.Snapshot s) good p
stored_is_valid w (stored.Item i) good p = store_path_valid.gives w (store_path.Item i) good p

stored_valid : GivesWord IsStored IsValidStored
stored_valid = record { gives = stored_is_valid }

-- the shapes

head_word : (w : List ℕ) (ws : List (List ℕ)) → Each IsWord (w ∷ ws) → IsWord w
head_word w ws (one good rest) = good

tail_words : (w : List ℕ) (ws : List (List ℕ)) → Each IsWord (w ∷ ws) → Each IsWord ws
tail_words w ws (one good rest) = rest

as_words : (ws vs : List (List ℕ)) → ws ≡ vs → Each IsWord ws → Each IsWord vs
as_words ws vs e good = subst (λ (l : List (List ℕ)). Each IsWord l) e good

module _ {A : Type 0} {P : List ℕ → A → Type 0} {V : A → Type 0} (p_valid : GivesWord P V) where
  one_word : Gives (OneWord P) V
  unfolding OneWord
  one_word = record { gives = λ ws x good p. p_valid.gives p.0 x (head_word p.0 [] (as_words ws _ p.1 good)) p.2 }

  option_and : (option : List ℕ) → Gives (OptionAnd option P) V
  unfolding OptionAnd
  option_and option = record {
    gives = λ ws x good p.
        let words = as_words ws (option ∷ p.0 ∷ []) p.1 good in
        p_valid.gives p.0 x (head_word p.0 [] (tail_words option (p.0 ∷ []) words)) p.2;
  }

module _ {A B : Type 0} {P : List ℕ → A → Type 0} {Q : List ℕ → B → Type 0} {V : A → Type 0} {W : B → Type 0}
    (p_valid : GivesWord P V) (q_valid : GivesWord Q W) where
  two_words : Gives (TwoWords P Q) (λ xy. V xy.0 × W xy.1)
  unfolding TwoWords
  two_words = record {
    gives = λ ws x good p.
        let words = as_words ws (p.0 ∷ p.1 ∷ []) p.2 good in
        let more_words = tail_words p.0 (p.1 ∷ []) words in
        (p_valid.gives p.0 x.0 (head_word p.0 (p.1 ∷ []) words) p.3, q_valid.gives p.1 x.1 (head_word p.1 [] more_words) p.4);
  }

module _ {A B C : Type 0} {P : List ℕ → A → Type 0} {Q : List ℕ → B → Type 0} {R : List ℕ → C → Type 0}
    {V : A → Type 0} {W : B → Type 0} {X : C → Type 0} (p_valid : GivesWord P V) (q_valid : GivesWord Q W) (r_valid : GivesWord R X) where
  three_words : Gives (ThreeWords P Q R) (λ xyz. V xyz.0 × W xyz.1 × X xyz.2)
  unfolding ThreeWords
  three_words = record {
    gives = λ ws x good p.
        let words = as_words ws (p.0 ∷ p.1 ∷ p.2 ∷ []) p.3 good in
        let more_words = tail_words p.0 (p.1 ∷ p.2 ∷ []) words in
        let last_words = tail_words p.1 (p.2 ∷ []) more_words in (
          p_valid.gives p.0 x.0 (head_word p.0 (p.1 ∷ p.2 ∷ []) words) p.4,
          q_valid.gives p.1 x.1 (head_word p.1 (p.2 ∷ []) more_words) p.5,
          r_valid.gives p.2 x.2 (head_word p.2 [] last_words) p.6,
        );
  }

module _ {A B C : Type 0} {P : List ℕ → A → Type 0} {Q : List ℕ → B → Type 0} {R : List (List ℕ) → C → Type 0}
    {V : A → Type 0} {W : B → Type 0} {X : C → Type 0} (p_valid : GivesWord P V) (q_valid : GivesWord Q W) (r_valid : Gives R X) where
  two_and : Gives (TwoAnd P Q R) (λ xyz. V xyz.0 × W xyz.1 × X xyz.2)
  unfolding TwoAnd
  two_and = record {
    gives = λ ws x good p.
        let words = as_words ws (p.0 ∷ p.1 ∷ p.2) p.3 good in
        let more_words = tail_words p.0 (p.1 ∷ p.2) words in
        let last_words = tail_words p.1 p.2 more_words in (
          p_valid.gives p.0 x.0 (head_word p.0 (p.1 ∷ p.2) words) p.4,
          q_valid.gives p.1 x.1 (head_word p.1 p.2 more_words) p.5,
          r_valid.gives p.2 x.2 last_words p.6,
        );
  }

may_be_left_out : {P : List ℕ → List ℕ → Type 0} {V : List ℕ → Type 0} → V [] → GivesWord P V → Gives (MayBeLeftOut P) V
unfolding MayBeLeftOut
may_be_left_out {P} {V} empty p_valid = record {
  gives = λ ws x good p.
      elim p [
        | inl a ↦ subst (λ (t : List ℕ). V t) (sym a.1) empty
        | inr a ↦ p_valid.gives a.0 x (head_word a.0 [] (as_words ws _ a.1 good)) a.2
      ];
}

-- the lines

makes : {A : Type 0} {S : List (List ℕ) → A → Type 0} {V : A → Type 0} → Gives S V → (make : A → Line)
    → ((x : A) → V x → IsValidLine (make x)) → Gives (Makes S make) IsValidLine
makes {A} {S} {V} s_valid make valid = record {
  gives = λ ws l good p. subst (λ (k : Line). IsValidLine k) (sym p.2) (valid p.0 (s_valid.gives ws p.0 good p.1));
}

no_word : (made : Line) → IsValidLine made → Gives (NoWord made) IsValidLine
no_word made valid = record { gives = λ ws l good p. subst (λ (k : Line). IsValidLine k) (sym p.1) valid }

with_option : (option : List ℕ) (first second : List (List ℕ) → Line) → ((x : List (List ℕ)) → IsValidPath x → IsValidLine (first x))
    → ((x : List (List ℕ)) → IsValidPath x → IsValidLine (second x))
    → Gives (λ ws l. Makes (OneWord IsPath) first ws l ⊎ Makes (OptionAnd option IsPath) second ws l) IsValidLine
with_option option first second valid valid_too = record {
  gives = λ ws l good p.
      elim p [
        | inl a ↦ (makes (one_word path_valid) first valid).gives ws l good a
        | inr a ↦ (makes (option_and path_valid option) second valid_too).gives ws l good a
      ];
}

start_valid : Gives (TmutilArguments tmutil.StartBackup) IsValidLine
start_valid = record {
  gives = λ ws l good p.
      elim p [
        | inl a ↦ subst (λ (k : Line). IsValidLine k) (sym a.1) tt
        | inr a ↦ subst (λ (k : Line). IsValidLine k) (sym a.1) tt
      ];
}

session_lines_valid : (v : SessionVerb) → Gives (SessionArguments v) IsValidLine
session_lines_valid session.At = makes (one_word date_valid) _ (λ x v. v)
session_lines_valid session.NewVolume = makes (three_words name_valid id_valid events_valid) _ (λ x v. v)
session_lines_valid session.NewStore = makes (one_word name_valid) _ (λ x v. v)
session_lines_valid session.Advance = makes (one_word steps_valid) _ (λ x v. v)
session_lines_valid session.Gen = makes (two_words number_valid number_valid) _ (λ x v. v)
session_lines_valid session.Thin = no_word _ tt

item_lines_valid : (v : ItemVerb) → Gives (ItemArguments v) IsValidLine
item_lines_valid item.Mkdir = makes (one_word path_valid) _ (λ x v. v)
item_lines_valid item.Write = makes (two_words path_valid text_valid) _ (λ x v. v)
item_lines_valid item.Append = makes (two_words path_valid text_valid) _ (λ x v. v)
item_lines_valid item.Fill = makes (three_words path_valid number_valid number_valid) _ (λ x v. v)
item_lines_valid item.Rm = makes (one_word path_valid) _ (λ x v. v)
item_lines_valid item.Rmdir = makes (one_word path_valid) _ (λ x v. v)
item_lines_valid item.Mv = makes (two_words path_valid path_valid) _ (λ x v. v)
item_lines_valid item.Ln = makes (two_words path_valid target_valid) _ (λ x v. v)
item_lines_valid item.Chmod = makes (two_words path_valid mode_valid) _ (λ x v. v)
item_lines_valid item.Chown = makes (three_words path_valid owner_valid owner_valid) _ (λ x v. v)
item_lines_valid item.Setx = makes (two_and path_valid name_valid (may_be_left_out (lit≤ tt, All-nil (λ b. b < 256)) value_valid)) _ (λ x v. v)
item_lines_valid item.Rmx = makes (two_words path_valid name_valid) _ (λ x v. v)
item_lines_valid item.Ls = makes (one_word path_valid) _ (λ x v. v)
item_lines_valid item.Cat = makes (one_word path_valid) _ (λ x v. v)

tmutil_lines_valid : (v : TmutilVerb) → Gives (TmutilArguments v) IsValidLine
tmutil_lines_valid tmutil.StartBackup = start_valid
tmutil_lines_valid tmutil.StopBackup = no_word _ tt
tmutil_lines_valid tmutil.ListBackups = no_word _ tt
tmutil_lines_valid tmutil.LatestBackup = no_word _ tt
tmutil_lines_valid tmutil.MachineDirectory = no_word _ tt
tmutil_lines_valid tmutil.AddExclusion = with_option _ _ _ (λ x v. v) (λ x v. v)
tmutil_lines_valid tmutil.RemoveExclusion = with_option _ _ _ (λ x v. v) (λ x v. v)
tmutil_lines_valid tmutil.IsExcluded = makes (one_word path_valid) _ (λ x v. v)
tmutil_lines_valid tmutil.UniqueSize = makes (one_word stored_valid) _ (λ x v. v)
tmutil_lines_valid tmutil.Delete = makes (one_word snapshot_valid) _ (λ x v. v)
tmutil_lines_valid tmutil.Restore = makes (two_words item_valid path_valid) _ (λ x v. v)

fsevents_lines_valid : (v : FsEventsVerb) → Gives (FsEventsArguments v) IsValidLine
fsevents_lines_valid fsevents.Since = makes (one_word number_valid) _ (λ x v. v)
fsevents_lines_valid fsevents.Uuid = no_word _ tt
fsevents_lines_valid fsevents.Drop = no_word _ tt
fsevents_lines_valid fsevents.Lose = no_word _ tt

store_lines_valid : (v : StoreVerb) → Gives (StoreArguments v) IsValidLine
store_lines_valid store.Ls = makes (one_word store_path_valid) _ (λ x v. v)
store_lines_valid store.Cat = makes (one_word item_valid) _ (λ x v. v)
store_lines_valid store.Stat = makes (one_word item_valid) _ (λ x v. v)
store_lines_valid store.Df = no_word _ tt

arguments_valid : (v : Verb) → Gives (Arguments v) IsValidLine
arguments_valid (verb.Session v) = session_lines_valid v
arguments_valid (verb.Item v) = item_lines_valid v
arguments_valid (verb.Tmutil v) = tmutil_lines_valid v
arguments_valid (verb.FsEvents v) = fsevents_lines_valid v
arguments_valid (verb.Store v) = store_lines_valid v

after : (front ws : List (List ℕ)) → Each IsWord (front ++ ws) → Each IsWord ws
after [] ws good = good
after (w ∷ front) ws (one here rest) = after front ws rest

line_valid : (words : List (List ℕ)) (l : Line) → Each IsWord words → IsLine words l → IsValidLine l
unfolding IsLine
line_valid words l good p = (arguments_valid p.0).gives p.1 l (after (keywords p.0) p.1 (as_words words _ p.2 good)) p.3

-- the words of a script

onto_first_each : (P : ℕ → Type 0) (b : ℕ) (parts : List (List ℕ)) → P b → Each (Every P) parts → Each (Every P) (onto_first b parts)
onto_first_each P b [] here no_one = one (more here none) no_one
onto_first_each P b (part ∷ parts) here (one first rest) = one (more here first) rest

cut_if : (P : ℕ → Type 0) (t : Bool) (b : ℕ) (parts : List (List ℕ)) → P b → Each (Every P) parts
    → Each (Every P) (cond t ([] ∷ parts) (onto_first b parts))
cut_if P true b parts here each_part = one none each_part
cut_if P false b parts here each_part = onto_first_each P b parts here each_part

cut_each : (P : ℕ → Type 0) (at : ℕ → Bool) (bytes : List ℕ) → Every P bytes → Each (Every P) (slice_split at bytes)
cut_each P at [] all = one none no_one
cut_each P at (b ∷ bytes) all =
    cut_if P (at b) b (slice_split at bytes) (All-head P b bytes all.all) (cut_each P at bytes (record { all = All-tail P b bytes all.all }))

keep_if : (t : Bool) (part : List ℕ) (parts : List (List ℕ)) → t ≡ nat_lt 0 (length part) → Every (λ b. b < 256) part → Each IsWord parts
    → Each IsWord (cond t (part ∷ parts) parts)
keep_if true part parts full bytes rest = one (record { some = grind (arith, nat_tests); bytes = bytes }) rest
keep_if false part parts full bytes rest = rest

filter_each : (parts : List (List ℕ)) → Each (Every (λ b. b < 256)) parts → Each IsWord (filter (λ part. nat_lt 0 (length part)) parts)
filter_each [] no_one = no_one
filter_each (part ∷ parts) (one bytes rest) = keep_if (nat_lt 0 (length part)) part _ refl bytes (filter_each parts rest)

words_each : (lines : List (List ℕ)) → Each (Every (λ b. b < 256)) lines → Each (Each IsWord) (map words_of lines)
words_each [] no_one = no_one
words_each (line ∷ lines) (one bytes rest) =
    one (filter_each _ (cut_each (λ b. b < 256) _ line bytes)) (words_each lines rest)

spell_valid : (words : List (List (List ℕ))) (lines : List Line) → Each (Each IsWord) words → Spell words lines → All IsValidLine lines
spell_valid [] [] good no_line = All-nil IsValidLine
spell_valid [] (l ∷ lines) good p = elim p [ ]
spell_valid (w ∷ words) lines (one here rest) (skipped s p) = spell_valid words lines rest p
spell_valid (w ∷ words) (l ∷ lines) (one here rest) (spelled s is p) =
    All-cons IsValidLine l lines (line_valid w l here is) (spell_valid words lines rest p)

pub script_valid : (script : List ℕ) (lines : List Line) → All (λ b. b < 256) script → IsScript script lines → All IsValidLine lines
script_valid script lines bytes p =
    spell_valid _ lines (words_each (lines_of script) (cut_each (λ b. b < 256) _ script (record { all = bytes }))) p
