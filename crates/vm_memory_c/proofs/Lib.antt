mod Values
mod HandleValues
mod BackendValues
mod BlockValues
