-- What the case file's reader answers.
pub mod Judging
-- What it puts into tables.
pub mod Tables
