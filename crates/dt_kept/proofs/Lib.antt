mod ByHart
mod Cutting
mod TraceOrder
