-- One outcome alone is given.
use Rattle.std.proofs.Common.{◌≡◌, ℕ, ◌≤◌, Option, Some, List, length, refl, sym, ap, ◌∙◌, subst, arith}
use Rattle.tm_world.specs.Outside.{Outside}
use Rattle.tm_text.specs.declared.line.Line.{Line}
use Rattle.tm_text.specs.Script.{IsScript, IsFirstBad}
use Rattle.tm_text.specs.ScriptLaws.{OneMeaning, BadIsOutside, OneFirstBadLine}
use Rattle.tm_base.specs.declared.refused.Side.TheVariants.{Volume as OfVolume, Store as OfStore}
use Rattle.tm_base.specs.Limits.{max_blocks}
use Rattle.tm_machine.specs.States.{Stored, opened}
use Rattle.tm_machine.specs.Runs.{said_of, any_refused}
use Rattle.tm_machine.specs.Stops.{CanOpen, PairReads}
use Rattle.tm_store.specs.Sides.{OneStoreSide, OneStoreFailure, StoreReadsOrFails}
use Rattle.tm_volume.specs.Answers.{FailsVolume, IsSpent, OneVolumeFailure, ReadsOrFailsVolume}
use Rattle.tm_volume.specs.Reads.{OneSide}
use Rattle.tm_world.specs.Disk.{Image}
use Rattle.tm_world.specs.Torn.{as_read}
use Rattle.tm_world.specs.declared.cause.Cause.{Cause}
use Rattle.tm_run.specs.declared.status.Status.{Status}
use Rattle.tm_run.specs.declared.status.Status.TheVariants as status
use Rattle.tm_command.specs.Command.{IsCommand, IsSomeCommand}
use Rattle.tm_command.proofs.CommandLemmas.{one_command}
use Rattle.tm_run.proofs.PairLemmas.{image_small, store_small}
use Rattle.tm_run.specs.Outcomes.{IsStart, Outcome, Ran, usage, too_long, bad, runs, bad_volume, bad_store, replies, done_status, bad_line, bad_image_line}
use Rattle.tm_run.specs.Pairs.{AreSmall, found}

some_command : {words : List (List ℕ)} {v s p : List ℕ} {create : Option ℕ} → IsCommand words v s p create → IsSomeCommand words
some_command {words} {v} {s} {p} {create} is = record { volume = v; store = s; script = p; create = create; is = is }

-- two scripts that stand where the words say are one
one_script : (words : List (List ℕ)) (outside : Outside) (v s p script w t q other : List ℕ) (create make : Option ℕ)
    → IsCommand words v s p create → outside.scripts p ≡ Some script → IsCommand words w t q make → outside.scripts q ≡ Some other → script ≡ other
one_script words outside v s p script w t q other create make a x b y =
    let path : p ≡ q = (one_command words v s p create w t q make a b).2 in
    let both : Some script ≡ Some other = sym x ∙ ap outside.scripts path ∙ y in
    cc both

-- ---- lines over images

same_stored : (r q : Stored) → r.volume ≡ q.volume → r.store ≡ q.store → r ≡ q
same_stored r q same also = λ i. record { volume = same i; store = also i }

-- what an image is, on either side
pub record SideLaws : Type 0 where
  pub volume_is_one : OneSide
  pub volume_fails : OneVolumeFailure
  pub volume_whole : ReadsOrFailsVolume
  pub store_is_one : OneStoreSide
  pub store_fails : OneStoreFailure
  pub store_whole : StoreReadsOrFails

-- a volume that can be opened fails no check
pub opens_whole : SideLaws → (v : Image) (c : Cause) (place : ℕ) → 3 ≤ v.count → v.count ≤ max_blocks → CanOpen v → FailsVolume v c place → ⊥
opens_whole laws v c place many few can fails = can.unspent (laws.volume_whole v can.volume c place many few can.reads fails).1

-- and one that is read as something that isn't spent
pub reads_whole : SideLaws → (v z : Image) (r : Stored) (c : Cause) (place : ℕ) → 3 ≤ v.count → v.count ≤ max_blocks → PairReads r v z → ¬ IsSpent r.volume → FailsVolume v c place → ⊥
reads_whole laws v z r c place many few reads unspent fails = unspent (laws.volume_whole v r.volume c place many few reads.volume_reads fails).1

-- a pair is read as one
pub one_pair : SideLaws → (v z : Image) (r q : Stored) → v.count ≤ max_blocks → z.count ≤ max_blocks → PairReads r v z → PairReads q v z → r ≡ q
one_pair laws v z r q few small reads also =
    same_stored r q (laws.volume_is_one v r.volume q.volume few reads.volume_reads also.volume_reads) (laws.store_is_one z r.store q.store small reads.store_reads also.store_reads)

module _ (laws : SideLaws) where
  pub one_ran : (v z : Image) (lines : List Line) (a b : Status) (x y : List ℕ) → v.count ≤ max_blocks → z.count ≤ max_blocks → Ran v z lines a x → Ran v z lines b y → (a ≡ b) × (x ≡ y)
  one_ran v z lines a b x y few small (bad_volume {c} {place} many f) (bad_volume {c = d} {place = other} more g) =
      let same = laws.volume_fails v d c other place few g f in
      (ap (λ (k : Cause). status.BadImage OfVolume k place) same.0 ∙ ap (status.BadImage OfVolume d) same.1, ap (λ (k : Cause). bad_image_line OfVolume k place) same.0 ∙ ap (bad_image_line OfVolume d) same.1)
  one_ran v z lines a b x y few small (bad_volume {c} {place} many f) (bad_store can more g) = absurd (opens_whole laws v c place many few can f)
  one_ran v z lines a b x y few small (bad_volume {c} {place} many f) (replies {r} reads unspent) = absurd (reads_whole laws v z r c place many few reads unspent f)
  one_ran v z lines a b x y few small (bad_store can more g) (bad_volume {c} {place} many f) = absurd (opens_whole laws v c place many few can f)
  one_ran v z lines a b x y few small (bad_store {c} {place} can many f) (bad_store {c = d} {place = other} also more g) =
      let same = laws.store_fails z d c other place small g f in
      (ap (λ (k : Cause). status.BadImage OfStore k place) same.0 ∙ ap (status.BadImage OfStore d) same.1, ap (λ (k : Cause). bad_image_line OfStore k place) same.0 ∙ ap (bad_image_line OfStore d) same.1)
  one_ran v z lines a b x y few small (bad_store {c} {place} can many f) (replies {r} reads unspent) = absurd (laws.store_whole z r.store c place many small reads.store_reads f)
  one_ran v z lines a b x y few small (replies {r} reads unspent) (bad_volume {c} {place} many f) = absurd (reads_whole laws v z r c place many few reads unspent f)
  one_ran v z lines a b x y few small (replies {r} reads unspent) (bad_store {c} {place} can many f) = absurd (laws.store_whole z r.store c place many small reads.store_reads f)
  one_ran v z lines a b x y few small (replies {r} reads unspent) (replies {r = q} also left) =
      let same : r ≡ q = one_pair laws v z r q few small reads also in
      (ap (λ (k : Stored). done_status (any_refused (opened v.count z.count k) lines)) same, ap (λ (k : Stored). said_of (opened v.count z.count k) lines) same)

-- ---- runs

module _ (one_meaning : OneMeaning) (bad_is_outside : BadIsOutside) (one_first_bad : OneFirstBadLine) (words : List (List ℕ)) (outside : Outside) where
  start_script : {lines : List Line} {v z : Image} {w t q other : List ℕ} {make : Option ℕ} (start : IsStart words outside lines v z)
      → IsCommand words w t q make → outside.scripts q ≡ Some other → start.script ≡ other
  start_script {lines} {v} {z} {w} {t} {q} {other} {make} start also stood =
      one_script words outside start.volume start.store start.path start.script w t q other start.create make start.command start.stands also stood

  pub one_start : (lines others : List Line) (v w y z : Image) → IsStart words outside lines v z → IsStart words outside others w y → (lines ≡ others) × (v ≡ w) × (z ≡ y)
  one_start lines others v w y z a b =
      let same = one_command words a.volume a.store a.path a.create b.volume b.store b.path b.create a.command b.command in
      let script : a.script ≡ b.script = start_script a b.command b.stands in
      let volumes : found a.volume a.create outside ≡ found b.volume b.create outside =
      ap (λ (p : List ℕ). found p a.create outside) same.0 ∙ ap (λ (c : Option ℕ). found b.volume c outside) same.3 in
      let stores : found a.store a.create outside ≡ found b.store b.create outside =
      ap (λ (p : List ℕ). found p a.create outside) same.1 ∙ ap (λ (c : Option ℕ). found b.store c outside) same.3 in (
        one_meaning b.script lines others (subst (λ (u : List ℕ). IsScript u lines) script a.is_script) b.is_script,
        a.volume_is ∙ ap as_read volumes ∙ sym b.volume_is,
        a.store_is ∙ ap as_read stores ∙ sym b.store_is,
      )

  pub starts_run : (lines : List Line) (v z : Image) (ended : Status) (text : List ℕ) → IsStart words outside lines v z → Outcome words outside ended text → Ran v z lines ended text
  starts_run lines v z ended text start (usage none) = absurd (none (some_command start.command))
  starts_run lines v z ended text start (too_long also stood long) =
      absurd (let e = start_script start also stood in omega (arith, ap length e, start.short, long))
  starts_run lines v z ended text start (bad {script = t} {n} also stood small first) =
      absurd (bad_is_outside t n lines first (subst (λ (u : List ℕ). IsScript u lines) (start_script start also stood) start.is_script))
  starts_run lines v z ended text start (runs {lines = others} {v = w} {z = y} also ran) =
      let same = one_start lines others v w y z start also in
      subst (λ (u : Image). Ran u z lines ended text) (sym same.1)
      (subst (λ (u : Image). Ran w u lines ended text) (sym same.2) (subst (λ (ls : List Line). Ran w y ls ended text) (sym same.0) ran))

  module _ (laws : SideLaws) (small : AreSmall outside) where
    started : {lines : List Line} {v z : Image} (a b : Status) (x y : List ℕ) → IsStart words outside lines v z → Ran v z lines a x → Outcome words outside b y → (a ≡ b) × (x ≡ y)
    started {lines} {v} {z} a b x y start ran other =
        let few : v.count ≤ max_blocks = subst (λ (u : Image). u.count ≤ max_blocks) (sym start.volume_is) (image_small words start.volume start.store start.path start.create outside small start.command) in
        let low : z.count ≤ max_blocks = subst (λ (u : Image). u.count ≤ max_blocks) (sym start.store_is) (store_small words start.volume start.store start.path start.create outside small start.command) in
        one_ran laws v z lines a b x y few low ran (starts_run lines v z b y start other)

    pub one_outcome : (a b : Status) (x y : List ℕ) → Outcome words outside a x → Outcome words outside b y → (a ≡ b) × (x ≡ y)
    one_outcome a b x y (usage none) (usage more) = (refl, refl)
    one_outcome a b x y (usage none) (too_long is stands long) = absurd (none (some_command is))
    one_outcome a b x y (usage none) (bad is stands short first) = absurd (none (some_command is))
    one_outcome a b x y (too_long is stands long) (usage none) = absurd (none (some_command is))
    one_outcome a b x y (too_long is stands long) (too_long also stood more) = (refl, refl)
    one_outcome a b x y (too_long is stands long) (bad also stood short first) =
        absurd (let e = one_script words outside _ _ _ _ _ _ _ _ _ _ is stands also stood in omega (arith, ap length e))
    one_outcome a b x y (bad is stands short first) (usage none) = absurd (none (some_command is))
    one_outcome a b x y (bad is stands short first) (too_long also stood long) =
        absurd (let e = one_script words outside _ _ _ _ _ _ _ _ _ _ is stands also stood in omega (arith, ap length e))
    one_outcome a b x y (bad {script = s} {n = m} is stands short first) (bad {script = t} {n = n} also stood small second) =
        let e : s ≡ t = one_script words outside _ _ _ _ _ _ _ _ _ _ is stands also stood in
        let same : m ≡ n = one_first_bad t m n (subst (λ (u : List ℕ). IsFirstBad u m) e first) second in
        (ap status.Script same, ap bad_line same)
    one_outcome a b x y (usage none) (runs start ran) = absurd (none (some_command start.command))
    one_outcome a b x y (too_long is stands long) (runs start ran) =
        let same = started b a y x start ran (too_long is stands long) in (sym same.0, sym same.1)
    one_outcome a b x y (bad is stands short first) (runs start ran) =
        let same = started b a y x start ran (bad is stands short first) in (sym same.0, sym same.1)
    one_outcome a b x y (runs start ran) (usage none) = absurd (none (some_command start.command))
    one_outcome a b x y (runs start ran) (too_long is stands long) = started a b x y start ran (too_long is stands long)
    one_outcome a b x y (runs start ran) (bad is stands short first) = started a b x y start ran (bad is stands short first)
    one_outcome a b x y (runs start ran) (runs also more) = started a b x y start ran (runs also more)
