mod Choices
mod Histories
mod Moments
mod Newests
mod Pages
mod Steadiness
