mod Hands
mod Making
mod Ended
mod Joined
mod Meeting
mod Runs
