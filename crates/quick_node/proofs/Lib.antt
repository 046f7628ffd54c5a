pub mod SaidLines
pub mod Written
pub mod Opened
mod TaskCauses
mod Replying
mod Searching
pub mod Fronts
pub mod NodeAtEnd
pub mod InOneWay
pub mod Exact
pub mod Calmed
pub mod Clocks
pub mod Names
pub mod Fitted
pub mod Onward
pub mod RunSteps
pub mod Taking
pub mod DriveRun
pub mod Words
pub mod SameLog
pub mod Short
pub mod LongerLog
pub mod BeforeLastLine
pub mod Onces
pub mod Files
mod Working
mod EntryRows
mod CollectorKeeps
mod Collected
mod Leaving
pub mod Reached
pub mod DriveClause
pub mod Bytes
mod Caused
mod NewIndex
mod FaultCalls
mod CollectorFaults
mod WorkerFaults
mod LineFaults
mod EndFaults
mod Catching
mod Gathered
mod Lateness
mod Expiring
mod Timing
mod Prefixes
mod WorkerLines
mod Beginning
mod MergeCalls
mod Merged
mod ApplyCalls
mod Applied
mod Refusing
mod LogFaults
pub mod CreateLeaves
pub mod CreateClause
pub mod ReportLeaves
pub mod ReportClause
mod CausedReports
mod Unread
mod Finding
mod Quiet
pub mod RunClause
pub mod RunFound
mod BehindCrash
