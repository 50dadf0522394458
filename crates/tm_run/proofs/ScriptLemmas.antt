-- Reading a script, part by part.
use Rattle.std.proofs.Common.{◌≡◌, ℕ, ◌≤◌, List, [], ◌++◌, take, drop, length, refl, sym, ap, ◌∙◌, subst, append_assoc, Option, Some, None, IsSome, IfSome, unwrap_or, Result, Ok, Err, IfOk}
use Rattle.std.proofs.lemmas.List.{take-append-drop}
use Rattle.tm_world.specs.Log.{Log, now, Passes, Steps}
use Rattle.tm_world.specs.Outside.{Outside, took, attached}
use Rattle.tm_world.specs.declared.world.Part.TheVariants.{Script}
use Rattle.tm_world.proofs.Going.{Passes-now, Passes-then, Passes-weaker}
use Rattle.tm_run.specs.Scripts.{IsReading, ReadsScript, ReadsAt}
use Rattle.tm_run.specs.declared.script.ScriptError.{ScriptError}
use Rattle.tm_base.specs.Limits.{max_script_bytes}

-- these bytes of the script were read, and the others are left
pub record HasRead (old new : Outside) (script : List ℕ) : Type 0 where
  pub reading : IsReading old new
  pub whole : script ++ new.unread ≡ old.unread

pub same_reads : (s : Outside) → IsReading s s
same_reads s = record { stands = refl; scripts = refl; volume = refl; store = refl; said = refl }

pub read_none : (s : Outside) → HasRead s s []
read_none s = record { reading = same_reads s; whole = refl }

pub took_reads : (s : Outside) (n : ℕ) → IsReading s (took n s)
unfolding took
took_reads s n = record { stands = refl; scripts = refl; volume = refl; store = refl; said = refl }

pub left_took : (s : Outside) (n : ℕ) → (took n s).unread ≡ drop n s.unread
unfolding took
left_took s n = refl

pub reads_on : (old mid new : Outside) → IsReading old mid → IsReading mid new → IsReading old new
reads_on old mid new p q = record {
  stands = q.stands ∙ p.stands;
  scripts = q.scripts ∙ p.scripts;
  volume = q.volume ∙ p.volume;
  store = q.store ∙ p.store;
  said = q.said ∙ p.said;
}

pub read_more : (old mid new : Outside) (script more : List ℕ) (n : ℕ) → HasRead old mid script → IsReading mid new
    → more ≡ script ++ take n mid.unread → new.unread ≡ drop n mid.unread → HasRead old new more
read_more old mid new script more n h r is left = record {
  reading = reads_on old mid new h.reading r;
  whole = rw (is, left, append_assoc, take-append-drop) h.whole;
}

-- after the script at a path is attached
pub attached_reads : (path : List ℕ) (s : Outside) → IsReading s (attached Script path None s)
unfolding attached
attached_reads path s = record { stands = refl; scripts = refl; volume = refl; store = refl; said = refl }

some_is : (o : Option (List ℕ)) → IsSome o → o ≡ Some (unwrap_or o [])
some_is None h = cc
some_is (Some x) h = refl

pub attached_left : (path : List ℕ) (s : Outside) → IsSome (s.scripts path) → s.scripts path ≡ Some ((attached Script path None s).unread)
unfolding attached
attached_left path s h = some_is (s.scripts path) h

-- what is read from the script that was attached
pub script_at : (path : List ℕ) (old mid : Outside) (result : Result (Option (List ℕ)) ScriptError)
    → old.scripts path ≡ Some mid.unread → ReadsScript mid result → IfOk result (λ script. IfSome script (λ bytes. length bytes ≤ max_script_bytes)) → ReadsAt old path result
script_at path old mid (Ok (Some script)) stands is short = (stands ∙ ap Some (sym is), short)
script_at path old mid (Ok None) stands long short = record { script = mid.unread; stands = stands; has = long }
script_at path old mid (Err e) stands is short = tt

-- ---- at each moment

pub reading_steps : (old new : Log) (after : Outside) → Steps old new after → IsReading (now old) after → Passes old new (IsReading (now old))
reading_steps old new after steps reading = Passes-weaker old new _ (IsReading (now old)) (λ s is. subst (IsReading (now old)) (sym is) reading) steps.passes

-- one call after another
pub reading_then : (old mid new : Log) → Passes old mid (IsReading (now old)) → Passes mid new (IsReading (now mid)) → Passes old new (IsReading (now old))
reading_then old mid new first second =
    let here : IsReading (now old) (now mid) = Passes-now old mid (IsReading (now old)) first (same_reads (now old)) in
    Passes-then old mid new (IsReading (now old)) first (Passes-weaker mid new _ (IsReading (now old)) (λ o reading. reads_on (now old) (now mid) o here reading) second)
