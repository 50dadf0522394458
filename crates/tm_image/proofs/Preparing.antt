-- What a prepared commit owns, and what it needs.
use Rattle.std.proofs.Common.{◌≡◌, ◌≢◌, ℕ, ◌+◌, ◌^◌, ◌<◌, ◌≤◌, List, [], ◌∷◌, length, get_or, refl, sym, ◌∙◌, ap, subst, arith, length-append}
use Rattle.std.specs.List.{sum, sum_by, All, flat_map}
use Rattle.std.specs.List.Sorted.{IsStrictlySortedBy}
use Rattle.std.specs.Ordering.{nat_cmp}
use Rattle.std.specs.Map.{keys_of, values_of}
use Rattle.std.proofs.lemmas.List.Concat.{flat_map-cons}
use Rattle.tm_gate.specs.Root.{IsRoot}
use Rattle.tm_blockmap.specs.Marks.{AreMarks}
use Rattle.tm_blockmap.specs.Counts.{times}
use Rattle.tm_blockmap.proofs.Counting.{hit, marks_sum}
use Rattle.tm_records.specs.declared.record.Record.{Record}
use Rattle.tm_records.specs.declared.record.Put.{Put}
use Rattle.tm_records.specs.declared.log.Undo.{Undo}
use Rattle.tm_records.specs.Records.{Records, weigh}
use Rattle.tm_records.specs.Puts.{brought}
use Rattle.tm_records.specs.Undo.{let_go}
use Rattle.tm_table.specs.Text.{record_text, table_text}
use Rattle.tm_table.proofs.Standing.{length-record_text}
use Rattle.tm_image.specs.Layout.{blocks_for}
use Rattle.tm_image.specs.Content.{in_data}
use Rattle.tm_image.specs.Reads.{kept, data_len}
use Rattle.tm_image.specs.Seen.{Seen, IsSound, IsKept, IsSettled, content_of, staged}
use Rattle.tm_image.specs.Room.{need_of, table_len, brought_len}
use Rattle.tm_image.specs.Commit.{IsFor, IsCovered, released, released_len}
use Rattle.tm_image.proofs.Owning.{bounded, weigh-ones, log-ones, puts-ones}
use Rattle.tm_base.specs.Limits.{max_blocks}

-- what is brought and what is let go are the difference
abbrev pub Balance : Records → Records → List Undo → List Put → Type 0
Balance es0 es1 log puts = (w : ℕ → ℕ) → weigh w es1 + sum_by (λ u. sum_by w (let_go u)) log ≡ weigh w es0 + sum_by (λ p. sum_by w (brought p.body)) puts

-- removals after puts
pub balance_then : (es0 es1 es2 : Records) (log1 log2 : List Undo) (puts : List Put) → Balance es0 es1 log1 puts
    → ((w : ℕ → ℕ) → weigh w es2 + sum_by (λ u. sum_by w (let_go u)) log2 ≡ weigh w es1 + sum_by (λ u. sum_by w (let_go u)) log1) → Balance es0 es2 log2 puts
balance_then es0 es1 es2 log1 log2 puts first second = λ w. second w ∙ first w

pub released_is : (es0 es2 : Records) (log : List Undo) (puts : List Put) → Balance es0 es2 log puts → data_len es2 + released_len log ≡ data_len es0 + brought_len puts
released_is es0 es2 log puts balance = omega (arith, balance (λ y. 1), weigh-ones es0, weigh-ones es2, log-ones log, puts-ones puts)

-- the table in place has the blocks that its text takes
pub table_is : (m : Seen) → IsSound m → IsSettled m → length m.layout ≡ table_len m.records
table_is m sound settled = sound.many ∙ ap blocks_for settled

table-some : (e : ℕ × Record) (es : Records) → 0 < length (table_text (e ∷ es))
unfolding table_text
table-some e es = omega (arith, ap length (flat_map-cons record_text e es), length-append (record_text e) (flat_map record_text es), length-record_text e)

pub some_text : (es : Records) (text : List ℕ) → es ≢ [] → text ≡ table_text es → 0 < length text
some_text [] text some is = absurd (some refl)
some_text (e ∷ es) text some is = omega (arith, ap length is, table-some e es)

module _ (m : Seen) (sound : IsSound m) (es : Records) (log : List Undo) (puts : List Put) (balance : Balance m.records es log puts)
    (stage : (b : ℕ) → sum_by (λ p. times b (brought p.body)) puts ≤ staged b m) where
  -- what was let go is owned by none, and used
  pub held : (b : ℕ) → kept b + times b m.layout + in_data b es + released b log ≤ get_or m.used b 0
  held b = omega (arith, sound.owners b, stage b, balance (λ x. hit x b))

  pub few : length m.layout + released_len log + data_len es ≤ max_blocks
  few = omega (arith, bounded m.used m.layout [] es log (λ b. omega (arith, held b)), marks_sum m.used sound.marks, sound.small)

  module _ (text blocks used : List ℕ) (taken : (b : ℕ) → get_or used b 0 ≡ get_or m.used b 0 + times b blocks) where
    pub sound_after : AreMarks used → length used ≡ length m.used → IsStrictlySortedBy nat_cmp (keys_of es) → All (λ k. k < 2 ^ 64) (keys_of es) → All IsKept (values_of es)
        → IsSound (record { side = m.side; records = es; used = used; layout = m.layout; root = m.root; named = m.named })
    sound_after marks size rising keys each = record {
      marks = marks;
      owners = λ b. omega (arith, held b, taken b);
      small = omega (arith, sound.small);
      low = sound.low;
      high = sound.high;
      rising = rising;
      keys = keys;
      each = each;
      root = subst (λ n. IsRoot m.side n m.root) (sym size) sound.root;
      first = sound.first;
      many = sound.many;
    }

    pub ready : text ≡ table_text es → es ≢ [] → length blocks ≡ blocks_for (length text) → need_of (length m.layout) (length blocks) (released_len log) + sum m.used ≤ length m.used
        → sum used ≡ sum m.used + length blocks → length used ≡ length m.used → IsFor text blocks log (record { side = m.side; records = es; used = used; layout = m.layout; root = m.root; named = m.named })
    ready text_is some many room count size = record {
      text_is = text_is;
      some = some_text es text some text_is;
      many = many;
      held = λ b. omega (arith, held b, taken b);
      room = omega arith;
    }

-- what the old content reaches is there still
pub covered_by : (m new : Seen) (es : Records) (log : List Undo) (puts : List Put) → Balance m.records es log puts → es ≡ new.records → new.layout ≡ m.layout → length new.used ≡ length m.used → IsCovered (content_of m) new log
covered_by m new es log puts balance is layout size = record {
  blocks = sym size;
  each = λ b. omega (arith, balance (λ x. hit x b), ap (in_data b) is, ap (times b) layout);
}
