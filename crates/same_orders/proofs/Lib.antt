mod Rows
mod Along
mod Alike
mod Meeting
mod SyncPairs
mod SyncMeeting
mod Firsts
