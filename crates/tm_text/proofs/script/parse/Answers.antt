use Rattle.std.proofs.Common.{◌≡◌, ◌+◌, ◌<◌, ℕ, List, ◌∷◌, map, refl, ap, arith, subst, inl}
use Rattle.std.proofs.lemmas.List.Elements.{All-from_get_or}
use Rattle.tm_text.specs.Pieces.{words_of}
use Rattle.tm_text.specs.Script.{IsFirstBad}
use Rattle.tm_text.specs.declared.script.ParseError.TheVariants as parse_error
use Rattle.tm_text.proofs.BoundsLemmas.{script_valid}
use Rattle.tm_text.proofs.OneMeaningLemmas.{first_bad_outside, first_bad_one}
use Rattle.tm_text.proofs.ScriptLemmas.{IsRead, read_none, read_all, read_skipped, read_more, read_bad, bad_from, left_shorter}
use Rattle.tm_text.proofs.script.parse.Goals as goal

-- the invariant, with the next line at the front of what is left
next : (script : List ℕ) (left : List (List ℕ)) (line : List ℕ) (rest : List (List ℕ)) (n : ℕ) (good : _) → left ≡ line ∷ rest
    → IsRead script (map words_of left) n good → IsRead script (words_of line ∷ map words_of rest) n good
next script left line rest n good e r = subst (λ (l : List (List ℕ)). IsRead script (map words_of l) n good) e r

pub loop-left-init : goal.loop-left-init
loop-left-init c = record { read = rw c.new-lines.ensures (read_none c.args.script.now _ refl); short = omega arith }

pub returns-in-Err-Bad-clause-bad : goal.returns-in-Err-Bad-clause-bad
returns-in-Err-Bad-clause-bad c =
    λ n e.
    let same : c.loop-left.number + 1 ≡ n = cc in
    let read = next _ _ _ _ _ _ c.cut_at.ensures.parts (rw c.in-Some.is at c.loop-left.invariant.read) in
    subst (λ (m : ℕ). IsFirstBad c.args.script.now m) same
    (read_bad _ _ _ _ _ read (bad_from _ (rw c.in-Err-Bad.field-0-is at c.in-Err-Bad.ensures)))

pub returns-in-Err-Bad-clause-reads : goal.returns-in-Err-Bad-clause-reads
returns-in-Err-Bad-clause-reads c =
    λ lines p. absurd (first_bad_outside c.args.script.now _ lines (returns-in-Err-Bad-clause-bad c _ refl) p)

pub returns-in-Err-Bad-clause-refuses : goal.returns-in-Err-Bad-clause-refuses
returns-in-Err-Bad-clause-refuses c =
    λ n first. inl (ap (λ (k : ℕ). parse_error.BadLine k) (first_bad_one c.args.script.now _ n (returns-in-Err-Bad-clause-bad c _ refl) first))

pub returns-clause-ok : goal.returns-clause-ok
returns-clause-ok c = read_all c.args.script.now c.loop-left.number c.loop-left.lines (rw c.in_default.is at c.loop-left.invariant.read)

pub returns-clause-valid : goal.returns-clause-valid
returns-clause-valid c =
    let bytes = All-from_get_or (λ b. b < 256) c.args.script.now 0 (λ i within. omega (arith, c.type_inv.script i)) in
    script_valid c.args.script.now c.loop-left.lines bytes (returns-clause-ok c)

pub returns-clause-refuses : goal.returns-clause-refuses
returns-clause-refuses c = λ n first. first_bad_outside c.args.script.now n c.loop-left.lines first (returns-clause-ok c)

pub loop-left-preserved-in-Ok-None : goal.loop-left-preserved-in-Ok-None
loop-left-preserved-in-Ok-None c =
    let read = next _ _ _ _ _ _ c.cut_at.ensures.parts (rw c.in-Some.is at c.loop-left.invariant.read) in
    let shorter = left_shorter c.cut_at.result.1 c.in-Some.text.now c.cut_at.ensures.shorter in
    let short = rw c.in-Some.is at c.loop-left.invariant.short in
    record { read = read_skipped _ _ _ _ _ read (rw c.in-Ok-None.field-0-is at c.in-Ok-None.ensures); short = omega (arith, shorter, short) }

pub loop-left-preserved : goal.loop-left-preserved
loop-left-preserved c =
    let read = next _ _ _ _ _ _ c.cut_at.ensures.parts (rw c.in-Some.is at c.loop-left.invariant.read) in
    let shorter = left_shorter c.cut_at.result.1 c.in-Some.text.now c.cut_at.ensures.shorter in
    let short = rw c.in-Some.is at c.loop-left.invariant.short in
    let line = rw c.in-Ok-Some.field-0-is at c.in-Ok-Some.ensures in
    record {
      read = rw c.in_ok-push-in-Ok-Some.ensures.ok (read_more _ _ _ _ _ c.in-Ok-Some.line read line.0 line.1);
      short = omega (arith, shorter, short);
    }
