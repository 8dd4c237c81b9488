pub mod DrawnCalls
pub mod EvenPlaces
pub mod KeysFrom
pub mod SizeTests
pub mod UnusedSources
pub mod WholeRuns
