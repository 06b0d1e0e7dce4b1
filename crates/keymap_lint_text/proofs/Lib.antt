mod Common
mod Headed
mod Messages
mod NoteWords
mod Lines
mod Listed
