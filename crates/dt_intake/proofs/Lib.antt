mod Counting
mod FileLaws
mod FrontLaws
mod Splits
mod TellingLaws
mod WriteLaws
