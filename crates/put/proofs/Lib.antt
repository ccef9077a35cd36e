pub mod BitsPut
