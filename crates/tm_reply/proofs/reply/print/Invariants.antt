use Rattle.std.proofs.Common.{◌≡◌, take}
use Rattle.std.specs.String.{string_bytes}
use Rattle.tm_reply.specs.Replies.{rows_text}
use Rattle.tm_reply.proofs.reply.print.Given as goal

abbrev pub invariant-loop-row : goal.invariant-loop-row
invariant-loop-row l = string_bytes l.text ≡ rows_text (take l.row-index l.row-items)
