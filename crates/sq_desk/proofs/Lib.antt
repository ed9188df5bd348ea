pub mod FilesUpdated
