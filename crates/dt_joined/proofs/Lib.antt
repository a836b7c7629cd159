mod Tellers
mod JoinedHarts
mod Joining
