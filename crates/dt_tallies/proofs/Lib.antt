mod CountLaws
mod NoteOrder
