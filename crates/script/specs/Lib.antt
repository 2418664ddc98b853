pub mod Kinds
pub mod FieldUse
pub mod Numbers
pub mod Records
pub mod RecordLaws
pub mod Replies
pub mod ReplyLaws
pub mod Playing
