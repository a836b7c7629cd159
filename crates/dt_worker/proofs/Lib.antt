mod AllTold
mod EachLane
mod EndLaws
mod Steadiness
