-- The texts of replies.
use Rattle.std.specs.Prelude.{ℕ, List, ◌++◌}
use Rattle.std.specs.List.{flat_map}
use Rattle.tm_reply.specs.Rows.{row_text}
use Rattle.tm_reply.specs.Closings.{closing_text}
use Rattle.tm_reply.specs.declared.row.ReplyRow.{ReplyRow}
use Rattle.tm_reply.specs.declared.reply.Reply.{Reply}

-- the data lines, one after the other
abbrev pub rows_text : List ReplyRow → List ℕ
rows_text rows = flat_map row_text rows

-- a reply's text: its data lines, and the closing line
unfoldable pub reply_text : Reply → List ℕ
reply_text reply = rows_text reply.rows ++ closing_text reply.refused
