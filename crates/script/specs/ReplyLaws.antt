-- What holds of every reply.
use Rattle.std.specs.Prelude.{◌≡◌, length}
use Rattle.script.specs.declared.answer.Reply.{Reply}
use Rattle.script.specs.Replies.{reply_bytes}

-- a reply has sixteen bytes
abbrev pub ReplyLength : Type 0
ReplyLength = (r : Reply) → length (reply_bytes r) ≡ 16
