-- What a stop leaves while bytes are staged, and while a commit is written.
use Rattle.std.proofs.Common.{◌≡◌, ⊎_elim, ℕ, ◌+◌, ◌<◌, ◌≤◌, List, length, get_or, sym, ap, subst, arith}
use Rattle.std.proofs.lemmas.Bool.{cases_lt}
use Rattle.tm_world.specs.Outside.{disk}
use Rattle.tm_world.specs.Log.{Log, now}
use Rattle.tm_world.specs.Runs.{Runs}
use Rattle.tm_world.proofs.Going.{Runs-weaker}
use Rattle.tm_gate.specs.Tag.{IsTag}
use Rattle.tm_chain.specs.Differs.{DiffersIn}
use Rattle.tm_blockmap.specs.Marks.{AreMarks}
use Rattle.tm_blockmap.specs.Counts.{times}
use Rattle.tm_blockmap.proofs.Counting.{stands_not}
use Rattle.tm_records.specs.declared.log.Undo.{Undo}
use Rattle.tm_records.specs.Records.{Records}
use Rattle.tm_image.specs.Content.{IsAtRest, LeavesEither}
use Rattle.tm_image.specs.Reads.{entries_of, IsGood, LeavesRead, LeavesOneOf}
use Rattle.tm_image.specs.Seen.{Seen, IsSound, IsSettled, content_of, Stands}
use Rattle.tm_image.specs.Room.{HasRoom}
use Rattle.tm_image.specs.Commit.{IsFor, next_content}
use Rattle.tm_image.proofs.Finishing.{taken_once, taken_apart}
use Rattle.tm_image.proofs.Stopping.{rest_still, staged_run}
use Rattle.tm_image.proofs.Standing.{good, good_next, leaves_read, leaves_one_of, entries_same}

-- what a stop leaves within the run stands for what the image has
abbrev pub ReadsOn : Log → Log → Seen → Type 0
ReadsOn l0 l1 s = Runs s.side (LeavesRead s.side (entries_of (disk s.side (now l0)).bytes s.records) s.root.tag) l0 l1

-- the same content, in an image of so many blocks, is at rest at the end
abbrev pub RestsOn : ℕ → Log → Seen → Type 0
RestsOn n l1 s = IsAtRest (record { blocks = n; records = s.records; layout = s.layout; root = s.root }) s.named (disk s.side (now l1))

abbrev pub SameData : Log → Log → Seen → Type 0
SameData l0 l1 s = entries_of (disk s.side (now l1)).bytes s.records ≡ entries_of (disk s.side (now l0)).bytes s.records

module _ (m : Seen) (sound : IsSound m) (blocks new : List ℕ) (taken : (b : ℕ) → get_or new b 0 ≡ get_or m.used b 0 + times b blocks) (marks : AreMarks new) (l0 l1 : Log) (table : List ℕ) (is : table ≡ blocks)
    (rest : Stands m (disk m.side (now l0))) where
  pub staging_run : IsSettled m → HasRoom m → Runs m.side (DiffersIn table (disk m.side (now l0))) l0 l1 → ReadsOn l0 l1 m
  staging_run settled room runs = Runs-weaker m.side _ (LeavesRead m.side (entries_of (disk m.side (now l0)).bytes m.records) m.root.tag) l0 l1
      (leaves_read m.side (content_of m) (disk m.side (now l0)).bytes (good m sound settled room) sound.each)
      (staged_run (content_of m) m.named sound.low sound.high blocks (taken_apart m sound blocks new taken marks) (taken_once m sound blocks new taken marks) m.side l0 l1 rest
      (subst (λ bs. Runs m.side (DiffersIn bs (disk m.side (now l0))) l0 l1) is runs))

  pub staging_rest : (n : ℕ) → n ≡ length m.used → DiffersIn table (disk m.side (now l0)) (disk m.side (now l1)) → RestsOn n l1 m
  staging_rest n size differs = subst (λ k. RestsOn k l1 m) (sym size)
      (rest_still (content_of m) m.named sound.low sound.high blocks (taken_apart m sound blocks new taken marks) (taken_once m sound blocks new taken marks) (disk m.side (now l0)) (disk m.side (now l1)) rest
      (subst (λ bs. DiffersIn bs (disk m.side (now l0)) (disk m.side (now l1))) is differs))

  pub staging_data : DiffersIn table (disk m.side (now l0)) (disk m.side (now l1)) → SameData l0 l1 m
  staging_data differs = entries_same m.records (disk m.side (now l1)).bytes (disk m.side (now l0)).bytes sound.each
      (λ b some. differs.bytes b (stands_not table b (⊎_elim
      (λ (clash : 0 < times b table). absurd (omega (arith, (taken_apart m sound blocks new taken marks b (omega (arith, clash, ap (times b) is))).1)))
      (λ (none : times b table ≤ 0). omega arith)
      (cases_lt 0 (times b table)))))

-- a whole commit: what the image had, or what it has next
module _ (m mid : Seen) (sound : IsSound m) (settled : IsSettled m) (room : HasRoom m) (sound_mid : IsSound mid) (side : mid.side ≡ m.side) (text blocks : List ℕ) (log : List Undo) (tag : List ℕ) (ready : IsFor text blocks log mid) (is_tag : IsTag m.side tag)
    (records : Records) (is : mid.records ≡ records) (data_bytes : ℕ → List ℕ) (l0 l1 : Log) where
  pub commit_run : Runs mid.side (LeavesEither (content_of m) (next_content blocks text tag mid) data_bytes) l0 l1 → Runs m.side (LeavesOneOf m.side (entries_of data_bytes m.records) m.root.tag (entries_of data_bytes records) tag) l0 l1
  commit_run runs =
      let tag_mid : IsTag mid.side tag = subst (λ s. IsTag s tag) (sym side) is_tag in
      subst (λ (rs : Records). Runs m.side (LeavesOneOf m.side (entries_of data_bytes m.records) m.root.tag (entries_of data_bytes rs) tag) l0 l1) is
      (subst (λ s. Runs s (LeavesOneOf s (entries_of data_bytes m.records) m.root.tag (entries_of data_bytes mid.records) tag) l0 l1) side
      (Runs-weaker mid.side _ (LeavesOneOf mid.side (entries_of data_bytes m.records) m.root.tag (entries_of data_bytes mid.records) tag) l0 l1
      (leaves_one_of mid.side (content_of m) (next_content blocks text tag mid) data_bytes (subst (λ s. IsGood s (content_of m)) (sym side) (good m sound settled room)) sound.each (good_next mid sound_mid text blocks log tag ready tag_mid) sound_mid.each)
      runs))
