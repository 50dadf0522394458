-- What a finished commit owns, and that its table stands beside the old content.
use Rattle.std.proofs.Common.{◌≡◌, ⊎_elim, ℕ, ◌+◌, ◌<◌, ◌≤◌, List, length, get_or, refl, sym, ◌∙◌, subst, arith}
use Rattle.std.specs.List.{sum}
use Rattle.std.proofs.lemmas.Bool.{cases_lt}
use Rattle.tm_gate.specs.declared.root.Root.{Root}
use Rattle.tm_gate.specs.Root.{IsRoot, after_root}
use Rattle.tm_gate.specs.Tag.{IsTag}
use Rattle.tm_blockmap.specs.Marks.{AreMarks}
use Rattle.tm_blockmap.specs.Gives.{Gives}
use Rattle.tm_blockmap.specs.Counts.{times, IsDistinct}
use Rattle.tm_blockmap.proofs.Counting.{within_map, stands}
use Rattle.tm_records.specs.declared.log.Undo.{Undo}
use Rattle.tm_image.specs.Content.{Content, in_data, reached, IsBeside}
use Rattle.tm_image.specs.Seen.{Seen, IsSound, content_of}
use Rattle.tm_image.specs.Room.{HasRoom}
use Rattle.tm_image.specs.Commit.{IsFor, IsCovered, IsFinished, next_root, next_content, released, released_len}
use Rattle.tm_image.proofs.Owning.{kept_low}
use Rattle.tm_image.proofs.Standing.{root_after}

pub some_block : (m : Seen) (text blocks : List ℕ) (log : List Undo) → IsFor text blocks log m → 0 < length blocks
some_block m text blocks log ready = omega (arith, ready.many, ready.some)

module _ (m : Seen) (sound : IsSound m) (text blocks : List ℕ) (log : List Undo) (ready : IsFor text blocks log m) where
  pub up : (b : ℕ) → 0 < times b blocks + in_data b m.records → 3 ≤ b
  up b some = ⊎_elim
      (λ (lt : b < 3). absurd (omega (arith, ready.held b, sound.marks b, kept_low b lt)))
      (λ (le : 3 ≤ b). le)
      (cases_lt b 3)

  pub beside : (old : Content) (tag : List ℕ) → IsCovered old m log → IsBeside old (next_content blocks text tag m) blocks
  beside old tag covered = record {
    blocks = sym covered.blocks;
    high = λ b some. up b (omega arith);
    apart = λ b some. omega (arith, ready.held b, sound.marks b, covered.each b);
    once = λ b. omega (arith, ready.held b, sound.marks b);
  }

  pub once : IsDistinct blocks
  once b = omega (arith, ready.held b, sound.marks b)

  pub up_blocks : (b : ℕ) → 0 < times b blocks → 3 ≤ b
  up_blocks b some = up b (omega arith)

  pub within : (n : ℕ) → length m.used ≡ n → (k : ℕ) → k < length blocks → get_or blocks k 0 < n
  within n is k lt =
      let b : ℕ = get_or blocks k 0 in
      omega (arith, within_map m.used b (omega (arith, ready.held b, stands blocks k lt)))

  module _ (mid new : List ℕ) (gives : Gives m.layout m.used mid) (marks : (b : ℕ) → get_or new b 0 + released b log ≡ get_or mid b 0) (size : length new ≡ length mid) (count : sum new + released_len log ≡ sum mid) (tag : List ℕ) (named : ℕ) where
    pub sound_after : IsTag m.side tag → 1 ≤ named → named ≤ 2 → IsSound (record { side = m.side; records = m.records; used = new; layout = blocks; root = next_root blocks text tag m.root; named = named })
    sound_after is_tag low high = record {
      marks = λ b. omega (arith, sound.marks b, marks b, gives.marks b);
      owners = λ b. omega (arith, ready.held b, marks b, gives.marks b);
      small = omega (arith, sound.small, gives.size, size);
      low = low;
      high = high;
      rising = sound.rising;
      keys = sound.keys;
      each = sound.each;
      root = subst (λ n. IsRoot m.side n (next_root blocks text tag m.root)) (sym (size ∙ gives.size)) (root_after m sound text blocks log tag ready is_tag);
      first = refl;
      many = ready.many;
    }

    pub finished : IsFinished m (record { side = m.side; records = m.records; used = new; layout = blocks; root = next_root blocks text tag m.root; named = named }) text blocks log tag
    finished = record {
      side = refl;
      records = refl;
      layout = refl;
      root = refl;
      size = size ∙ gives.size;
      used = λ b. omega (arith, marks b, gives.marks b);
    }

    pub space : HasRoom (record { side = m.side; records = m.records; used = new; layout = blocks; root = next_root blocks text tag m.root; named = named })
    space = omega (arith, ready.room, gives.size, gives.count, size, count)

-- blocks that were just taken are nobody's
module _ (m : Seen) (sound : IsSound m) (blocks new : List ℕ) (taken : (b : ℕ) → get_or new b 0 ≡ get_or m.used b 0 + times b blocks) (marks : AreMarks new) where
  pub taken_once : IsDistinct blocks
  taken_once b = omega (arith, taken b, marks b)

  pub taken_within : (n : ℕ) → length new ≡ n → (k : ℕ) → k < length blocks → get_or blocks k 0 < n
  taken_within n is k lt =
      let b : ℕ = get_or blocks k 0 in
      omega (arith, within_map new b (omega (arith, taken b, stands blocks k lt)))

  pub taken_apart : (b : ℕ) → 0 < times b blocks → (3 ≤ b) × (reached b (content_of m) ≡ 0)
  taken_apart b some =
      let free : get_or m.used b 0 ≡ 0 = omega (arith, taken b, marks b) in (
        ⊎_elim (λ (lt : b < 3). absurd (omega (arith, sound.owners b, kept_low b lt))) (λ (le : 3 ≤ b). le) (cases_lt b 3),
        omega (arith, sound.owners b),
      )

-- the root that a commit writes
pub root_is : (r : Root) (text blocks tag : List ℕ) (first len : ℕ) → first ≡ get_or blocks 0 0 → len ≡ length text → after_root r (record r { first = first; table_len = len; tag = tag }) ≡ next_root blocks text tag r
root_is r text blocks tag first len p q = λ i. after_root r (record r { first = p i; table_len = q i; tag = tag })
