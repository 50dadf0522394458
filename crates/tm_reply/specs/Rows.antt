-- The texts of data lines.
use Rattle.std.specs.Prelude.{ℕ, List, [], ◌∷◌, ◌++◌, length, codes}
use Rattle.std.specs.Fmt.{decimal}
use Rattle.tm_base.specs.Days.{moment_text}
use Rattle.tm_reply.specs.Escapes.{printed_word, printed_path, printed_id, printed_octal}
use Rattle.tm_reply.specs.Layout.{spaced, line_of}
use Rattle.tm_reply.specs.declared.row.Attributes.{Attributes}
use Rattle.tm_reply.specs.declared.row.Kind.{Kind}
use Rattle.tm_reply.specs.declared.row.Kind.TheVariants as kind
use Rattle.tm_reply.specs.declared.row.ListedName.{ListedName}
use Rattle.tm_reply.specs.declared.row.ListedName.TheVariants as listed
use Rattle.tm_reply.specs.declared.row.ReplyRow.{ReplyRow}
use Rattle.tm_reply.specs.declared.row.ReplyRow.TheVariants as row

-- MODE UID GID DATE E
unfoldable pub attributes_text : Attributes → List ℕ
attributes_text a =
    spaced (printed_octal a.mode ∷ decimal a.uid ∷ decimal a.gid ∷ moment_text a.modified ∷ decimal a.extras ∷ [])

-- a listed item's path, or its name
unfoldable pub printed_name : ListedName → List ℕ
printed_name (listed.Path path) = printed_path path
printed_name (listed.Entry name) = printed_word name

-- the word for a kind of item
unfoldable pub kind_word : Kind → List ℕ
kind_word kind.Folder = codes "folder"
kind_word kind.File = codes "file"
kind_word kind.Link = codes "link"

-- /Backups.backupdb/MACHINE
unfoldable pub machine_path : List ℕ → List ℕ
machine_path machine = codes "/Backups.backupdb/" ++ printed_word machine

-- /Backups.backupdb/MACHINE/DATE
unfoldable pub snapshot_path : List ℕ → ℕ → List ℕ
snapshot_path machine date = machine_path machine ++ 0x2F ∷ moment_text date

-- DATE.inProgress
unfoldable pub in_progress_name : ℕ → List ℕ
in_progress_name date = moment_text date ++ codes ".inProgress"

-- the words of a data line; attributes count as one
abbrev pub row_words : ReplyRow → List (List ℕ)
row_words (row.Folder a name) = codes "folder" ∷ attributes_text a ∷ printed_name name ∷ []
row_words (row.File a bytes stamp name) =
    codes "file" ∷ attributes_text a ∷ decimal bytes ∷ decimal stamp ∷ printed_name name ∷ []
row_words (row.Link a stamp name target) =
    codes "link" ∷ attributes_text a ∷ decimal stamp ∷ printed_name name ∷ printed_word target ∷ []
row_words (row.Extra name []) = codes "extra" ∷ printed_word name ∷ []
row_words (row.Extra name (b ∷ value)) = codes "extra" ∷ printed_word name ∷ printed_word (b ∷ value) ∷ []
row_words (row.Contents []) = codes "bytes" ∷ codes "0" ∷ []
row_words (row.Contents (b ∷ bytes)) = codes "bytes" ∷ decimal (length (b ∷ bytes)) ∷ printed_word (b ∷ bytes) ∷ []
row_words (row.Target target) = codes "target" ∷ printed_word target ∷ []
row_words (row.Generated files folders bytes) =
    codes "gen" ∷ codes "files" ∷ decimal files ∷ codes "folders" ∷ decimal folders ∷ codes "bytes" ∷ decimal bytes ∷ []
row_words (row.Running left) = codes "running" ∷ decimal left ∷ []
row_words (row.Finished date walked) = codes "finished" ∷ moment_text date ∷ codes "walked" ∷ decimal walked ∷ []
row_words (row.SnapshotPath machine date) = snapshot_path machine date ∷ []
row_words (row.MachineDirectory machine) = machine_path machine ∷ []
row_words (row.Excluded path) = codes "[Excluded]" ∷ printed_path path ∷ []
row_words (row.Included path) = codes "[Included]" ∷ printed_path path ∷ []
row_words (row.Unique bytes) = codes "unique" ∷ decimal bytes ∷ []
row_words (row.Removed machine date) = codes "removed" ∷ snapshot_path machine date ∷ []
row_words (row.Event id flags path) = codes "event" ∷ decimal id ∷ decimal flags ∷ printed_path path ∷ []
row_words (row.Uuid id) = codes "uuid" ∷ printed_id id ∷ []
row_words (row.Machine name) = codes "machine" ∷ printed_word name ∷ []
row_words (row.Snapshot date) = codes "snapshot" ∷ moment_text date ∷ []
row_words (row.InProgress date) = codes "running" ∷ in_progress_name date ∷ []
row_words (row.Latest date) = codes "latest" ∷ moment_text date ∷ []
row_words (row.Volume name id) = codes "volume" ∷ printed_word name ∷ printed_id id ∷ []
row_words (row.Stat kind label links) =
    codes "stat" ∷ kind_word kind ∷ codes "label" ∷ decimal label ∷ codes "links" ∷ decimal links ∷ []
row_words (row.Df blocks free nodes stored snapshots) =
    codes "df" ∷ codes "blocks" ∷ decimal blocks ∷ codes "free" ∷ decimal free ∷ codes "nodes" ∷ decimal nodes
    ∷ codes "stored" ∷ decimal stored ∷ codes "snapshots" ∷ decimal snapshots ∷ []

-- the text of a data line, with its end
unfoldable pub row_text : ReplyRow → List ℕ
row_text row = line_of (row_words row)
