pub mod DatagramRuns
mod Certain
mod FileSaved
mod Statuses
mod Surveys
mod Words
